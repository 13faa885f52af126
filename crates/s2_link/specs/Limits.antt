-- The limits of a link (own).
use Rattle.std.specs.Prelude.{◌≡◌, ℕ}
use Rattle.s2_link.specs.declared.roll_off.TheConstants.{MAX_ROLL_OFF}

-- the highest number of a roll-off: 0.35, 0.25, 0.20
abbrev pub max_roll_off : ℕ
max_roll_off = 2

-- the limit that the code tests is this
pub record LimitsLaw : Type 0 where
  pub roll_off : MAX_ROLL_OFF ≡ max_roll_off
