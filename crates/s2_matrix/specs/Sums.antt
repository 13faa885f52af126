-- The sums of checks, and the parity bits that they make (EN 302 307-1, 5.3.2).
use Rattle.std.specs.Prelude.{ℕ, zero, suc, Bool, false, ◌&&◌, List, length}
use Rattle.s2_bits.specs.Bits.{xor, bit_at}
use Rattle.s2_matrix.specs.Code.{Code}

-- the sum of the first n bits that f gives
abbrev pub sum_of : (ℕ → Bool) → ℕ → Bool
sum_of f zero = false
sum_of f (suc n) = xor (sum_of f n) (f n)

-- the sum of the information bits that are members of check j
abbrev pub information_sum : Code → List Bool → ℕ → Bool
information_sum code info j = sum_of (λ b. code.has j b && bit_at info b) (length info)

-- parity bit j: the sum of the sums of checks 0 to j, which is what the standard's accumulator leaves
abbrev pub parity_bit : Code → List Bool → ℕ → Bool
parity_bit code info j = sum_of (information_sum code info) (suc j)
