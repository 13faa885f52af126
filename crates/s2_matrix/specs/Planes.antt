-- The checks in planes, a layer in each: plane r has the checks r + q c, one for each lane c of a group (own).
use Rattle.std.specs.Prelude.{ℕ, ◌+◌, ◌*◌, ◌/◌, ◌%◌}

-- check j is in lane j div q of plane j mod q
abbrev pub plane_place : ℕ → ℕ → ℕ → ℕ
plane_place group q j = j % q * group + j / q
