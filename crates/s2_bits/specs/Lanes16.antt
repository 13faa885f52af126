-- Words of 16 bits in two's complement, as lanes hold them (own).
use Rattle.std.specs.Prelude.{ℕ, ◌+◌, ◌-◌, ◌/◌, ◌%◌, min, ℤ}
use Rattle.std.specs.Int.{cast_signed}
use mir.Syntax.{w16}

-- the number of a word in two's complement
abbrev pub signed16 : ℕ → ℤ
signed16 v = cast_signed w16 v

-- the difference of two words, modulo 2^16
abbrev pub minus16 : ℕ → ℕ → ℕ
minus16 a b = (a + (65536 - b)) % 65536

-- the sum of two words, modulo 2^16
abbrev pub plus16 : ℕ → ℕ → ℕ
plus16 a b = (a + b) % 65536

-- the magnitude of a word's number
abbrev pub magnitude16 : ℕ → ℕ
magnitude16 v = min v (minus16 0 v)

-- 1 if a word's number is negative, else 0
abbrev pub sign16 : ℕ → ℕ
sign16 v = v / 32768
