-- A transmitter, and the result of making one (own).
use Rattle.std.specs.Prelude.{◌≡◌, ℕ, ◌≤◌, Result, Ok, Err}
use Rattle.s2_rows.specs.Rows.{Rows}
use Rattle.s2_scramble.specs.Gold.{max_number}
use Rattle.s2_link.specs.Limits.{max_roll_off}
use Rattle.s2_link.specs.Link.{Link, link_of, HasShape, RefusesLink}
use Rattle.s2_link.specs.declared.setup.Setup.{Setup}
use Rattle.s2_link.specs.declared.fault.SetupFault.{SetupFault}
use Rattle.s2_link.specs.declared.fault.SetupFault.TheVariants as faults
use Rattle.s2_send.specs.Limits.{max_packets}

-- A transmitter: its link, the most packets of a run, and the number of frames between dummy frames, 0 for none
pub record Transmitter : Type 0 where
  pub link : Link
  pub limit : ℕ
  pub dummy_every : ℕ

-- a new transmitter on a link
abbrev pub new_transmitter : Link → Transmitter
new_transmitter link = record { link = link; limit = max_packets; dummy_every = 0 }

-- the answer for a setup and rows: a refusal, or else a transmitter on the link, unless there is no memory
abbrev pub TransmitterAnswers : Setup → Rows → Result Transmitter SetupFault → Type 0
TransmitterAnswers setup rows (Ok t) = HasShape setup rows × (setup.number ≤ max_number) × (setup.roll_off ≤ max_roll_off) × (t ≡ new_transmitter (link_of setup rows))
TransmitterAnswers setup rows (Err faults.NoMemory) = HasShape setup rows × (setup.number ≤ max_number) × (setup.roll_off ≤ max_roll_off)
TransmitterAnswers setup rows (Err fault) = RefusesLink setup rows fault
