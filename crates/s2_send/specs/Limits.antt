-- The limit of a run (own).
use Rattle.std.specs.Prelude.{◌≡◌, ◌^◌, ℕ}
use Rattle.s2_send.specs.declared.intake.TheConstants.{MAX_PACKETS}

-- the most packets that a run takes
abbrev pub max_packets : ℕ
max_packets = 2 ^ 62

-- the limit that the code tests is this
pub record LimitsLaw : Type 0 where
  pub packets : MAX_PACKETS ≡ max_packets
