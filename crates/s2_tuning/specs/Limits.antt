-- The limits of a receiver's tuning (own).
use Rattle.std.specs.Prelude.{◌≡◌, ℕ}
use Rattle.s2_tuning.specs.declared.tuning.TheConstants.{DEFAULT_ROUNDS, MAX_ROUNDS, MAX_PASSES}

-- the most rounds of min-sum that are tried
abbrev pub max_rounds : ℕ
max_rounds = 200

-- the default number of rounds of min-sum
abbrev pub default_rounds : ℕ
default_rounds = 50

-- the most passes of settling that are tried
abbrev pub max_passes : ℕ
max_passes = 1000

-- the limits that the code tests are these
pub record LimitsLaw : Type 0 where
  pub rounds : MAX_ROUNDS ≡ max_rounds
  pub default : DEFAULT_ROUNDS ≡ default_rounds
  pub passes : MAX_PASSES ≡ max_passes
