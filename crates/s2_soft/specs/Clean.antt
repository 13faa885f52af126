-- Symbols without noise (own).
use Rattle.std.specs.Prelude.{◌≡◌, ◌≢◌, ℕ, ◌<◌, Bool, List, length, ℤ, pos, map, int_lt}
use Rattle.s2_mode.specs.Mode.{Mode, IsMode, n_of}
use Rattle.s2_map.specs.Mapping.{payload_of}
use Rattle.s2_soft.specs.Divisors.{IsDivisor}
use Rattle.s2_soft.specs.Soft.{soft_values, value_at}

-- the hard decision of the soft values is the codeword, and none of them is 0
pub record DecidesTo (values : List ℤ) (codeword : List Bool) : Type 0 where
  pub decided : map (λ v. int_lt v (pos 0)) values ≡ codeword
  pub some : (k : ℕ) → k < length codeword → value_at values k ≢ pos 0

-- the soft values of a codeword's payload decide to the codeword, by each divisor
abbrev pub CleanLaw : Type 0
CleanLaw =
    (divisor : ℕ) (m : Mode) (codeword : List Bool) → IsDivisor divisor → IsMode m → length codeword ≡ n_of m → DecidesTo (soft_values divisor m (payload_of m codeword)) codeword
