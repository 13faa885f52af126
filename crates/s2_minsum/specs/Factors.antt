-- How many sixteenths of a magnitude a message keeps (own).
use Rattle.std.specs.Prelude.{◌≡◌, ℕ, ◌≤◌}
use Rattle.s2_minsum.specs.declared.factor.TheConstants.{LEAST_FACTOR, MAX_FACTOR, DEFAULT_FACTOR}

-- half of it
abbrev pub least_factor : ℕ
least_factor = 8

-- all of it
abbrev pub max_factor : ℕ
max_factor = 16

-- three quarters, the default
abbrev pub default_factor : ℕ
default_factor = 12

-- a factor: 8 to 16 sixteenths
abbrev pub IsFactor : ℕ → Type 0
IsFactor f = (least_factor ≤ f) × (f ≤ max_factor)

-- the factors that the code tests are these
pub record FactorsLaw : Type 0 where
  pub least : LEAST_FACTOR ≡ least_factor
  pub most : MAX_FACTOR ≡ max_factor
  pub usual : DEFAULT_FACTOR ≡ default_factor
