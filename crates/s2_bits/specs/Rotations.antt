-- Rows, one after another, and rotated rows (own).
use Rattle.std.specs.Prelude.{ℕ, ◌+◌, ◌-◌, ◌*◌, ◌%◌, List, get_or}

-- which of n places comes to place k in a rotation by s places
abbrev pub rotated : ℕ → ℕ → ℕ → ℕ
rotated n s k = (k + n - s) % n

-- which of n places comes to place k in a rotation back by s places
abbrev pub rotated_back : ℕ → ℕ → ℕ → ℕ
rotated_back n s k = (k + s) % n

-- place c of row r, of n places each
abbrev pub cell : List ℕ → ℕ → ℕ → ℕ → ℕ
cell xs n r c = get_or xs (r * n + c) 0
