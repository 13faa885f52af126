-- A slice that is read repeatedly, from its start again after its end (own).
use Rattle.std.specs.Prelude.{ℕ, nat_lt, List, length, drop, if◌then◌else◌}

-- the place of the next byte: after the last one, the first
abbrev pub next_place : List ℕ → ℕ → ℕ
next_place bytes at = if nat_lt at (length bytes) then at else 0

-- the bytes from the next one to the end
abbrev pub from_place : List ℕ → ℕ → List ℕ
from_place bytes at = drop (next_place bytes at) bytes
