-- Steps of the division, the register as a number of m bits: its bits are the highest, and zeros follow (EN 302 307-1,
-- 5.3.1).
use Rattle.std.specs.Prelude.{ℕ, zero, suc}
use Rattle.s2_field.specs.Binary.{times_x}

-- v times x^n in the field of `times m low`
unfoldable pub steps : ℕ → ℕ → ℕ → ℕ → ℕ
steps m low zero v = v
steps m low (suc n) v = steps m low n (times_x m low v)
