-- Words of 32 bits, as lanes hold them (own).
use Rattle.std.specs.Prelude.{ℕ, ◌+◌, ◌-◌, ◌%◌}

-- the difference of two words, modulo 2^32
abbrev pub minus32 : ℕ → ℕ → ℕ
minus32 a b = (a + (4294967296 - b)) % 4294967296

-- the sum of two words, modulo 2^32
abbrev pub plus32 : ℕ → ℕ → ℕ
plus32 a b = (a + b) % 4294967296
