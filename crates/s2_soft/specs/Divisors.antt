-- Divisors of differences of squared distances (own).
use Rattle.std.specs.Prelude.{◌≡◌, ℕ, ◌*◌, ◌/◌, List, [], ◌∷◌, Contains}
use Rattle.s2_map.specs.Constants.{diagonal}
use Rattle.s2_soft.specs.declared.divisor.TheConstants.{DEFAULT_DIVISOR, DIVISORS}

-- the divisors, from the finest soft values to the coarsest
abbrev pub divisors : List ℕ
divisors = 4096 ∷ 8192 ∷ 16384 ∷ 32768 ∷ 65536 ∷ []

-- one of the five divisors
abbrev pub IsDivisor : ℕ → Type 0
IsDivisor d = Contains divisors d

-- the default divisor
abbrev pub default_divisor : ℕ
default_divisor = 4096

-- the multiplier of a QPSK component if 65536 divides the product
abbrev pub factor_of : ℕ → ℕ
factor_of d = 4 * diagonal * (65536 / d)

-- the divisors that the code tests are these
pub record DivisorsLaw : Type 0 where
  pub all : DIVISORS ≡ divisors
  pub usual : DEFAULT_DIVISOR ≡ default_divisor
