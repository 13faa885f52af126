-- The value of a decider, and its invariant (EN 302 307-1, 5.1 to 5.5).
use Rattle.std.specs.Prelude.{◌≡◌, ℕ, List, IfSome}
use Rattle.s2_mode.specs.Mode.{IsMode, HasCodeSizes, shape_in}
use Rattle.s2_mode.specs.declared.symbols.Symbol.{Symbol}
use Rattle.s2_rows.specs.Rows.{Rows}
use Rattle.s2_receive.specs.Decider.{HasPlace}
use Rattle.s2_receive.specs.Receiving.{Decision}
use Rattle.s2_receive.specs.declared.decider.Decided.{Decided}
use Rattle.s2_link.specs.Link.{Link}
use Rattle.s2_tuning.specs.Tuning.{Tuning}
use Rattle.s2_message.specs.Reading.{FrameReader}
use Rattle.s2_modem.specs.Reports.{frame_decision, options_of}

-- a decider of frames: its link, its tuning, its last decision, and the data field of that decision
pub record DeciderState : Type 0 where
  pub link : Link
  pub tuning : Tuning
  pub last : Decision
  pub field : List ℕ

-- its decision on a frame's symbols
abbrev pub decides : DeciderState → List Symbol → Decision
decides d = frame_decision d.link d.tuning

-- A decider has rows of the mode of its frames, and reads these as its tuning says. The joiner can take the last
-- delivered field
pub record IsDeciderState (rows : Rows) (tuning : Tuning) (reader : FrameReader) (last : Decided) : Type 0 where
  pub valid : IsMode reader.mode
  pub sizes : HasCodeSizes reader.mode
  pub shape : rows.shape ≡ shape_in reader.mode
  pub options : reader.options ≡ options_of tuning
  pub place : IfSome last.header (HasPlace reader.field)
