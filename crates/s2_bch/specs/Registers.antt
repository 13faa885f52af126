-- The division register of three blocks of 64 bits, and what a word's division leaves (EN 302 307-1, 5.3.1).
use Rattle.std.specs.Prelude.{ℕ, ◌≡◌, ◌+◌, ◌-◌, ◌*◌, ◌^◌, ◌<◌, ◌≤◌, Bool, false, List, length, take, drop, replicate, slice_index_or}
use Rattle.s2_bch.specs.Division.{steps}
use Rattle.s2_bch.specs.Words.{register_after}
use Rattle.s2_bits.specs.Bits.{added, number_of}
use Rattle.s2_bch.specs.declared.register.Register.{Register}

-- the register as a number of 192 bits
abbrev pub value_of : Register → ℕ
value_of r = (r.high * 2 ^ 64 + r.middle) * 2 ^ 64 + r.low

abbrev pub empty : Register
empty = record { high = 0; middle = 0; low = 0 }

-- the bits are at the top of the register, and zeros follow
pub record Holds (r : Register) (bits : List Bool) : Type 0 where
  pub fits : length bits ≤ 192
  pub value : value_of r ≡ number_of bits * 2 ^ (192 - length bits)

-- entry 256 k + b is what the byte b at the top leaves after 8 (k + 1) steps of the division by x^degree + t
pub record IsTableFor (t : List Bool) (table : List Register) : Type 0 where
  pub some : 0 < length t
  pub fits : length t ≤ 192
  pub size : length table ≡ 2048
  pub entries : (k b : ℕ) → k < 8 → b < 256
      → value_of (slice_index_or table (256 * k + b) empty) ≡ steps 192 (number_of t * 2 ^ (192 - length t)) (8 * k + 8) (b * 2 ^ 184)

-- what the division by x^degree + t leaves of a word with k bits of message: zeros where it is a multiple
abbrev pub rest_of : List Bool → ℕ → List Bool → List Bool
rest_of t k w = added (register_after t (replicate (length t) false) (take k w)) (drop k w)
