-- The decision of a record on its frame, and when a record is true (own).
use Rattle.std.specs.Prelude.{◌≡◌, ℕ, ℤ, Bool, List, take, drop, Option, Some, None, IfSome, Result, Ok, Err}
use Rattle.s2_mode.specs.Mode.{Mode, symbols_in}
use Rattle.s2_mode.specs.declared.symbols.Symbol.{Symbol}
use Rattle.s2_rows.specs.Rows.{Rows}
use Rattle.s2_certfile.specs.File.{File}
use Rattle.s2_certfile.specs.Format.{file_of_bytes}
use Rattle.s2_certfile.specs.declared.fault.CertFault.{CertFault}
use Rattle.s2_check.specs.CertificateFiles.{Suits, view_of}
use Rattle.s2_check.specs.Views.{View}
use Rattle.s2_receive.specs.Decider.{HasPlace, delivered_of}
use Rattle.s2_receive.specs.Receiving.{Decision}
use Rattle.s2_receive.specs.declared.decider.Decided.{Decided}
use Rattle.s2_message.specs.Decisions.{decision_with, soft_frame}
use Rattle.s2_message.specs.Reading.{FrameReader}
use Rattle.s2_message.specs.declared.options.FrameOptions.{FrameOptions}
use Rattle.s2_check.specs.declared.verdict.Verdict.{Verdict}
use Rattle.s2_stitch.specs.Records.{Record, seal_of}

-- how frames are read: the rows of their code, their mode, their scrambling number, and the options. The seed is a number that
-- identifies all of these in the seals of records
pub record Terms : Type 0 where
  pub rows : Rows
  pub seed : ℕ
  pub mode : Mode
  pub number : ℕ
  pub options : FrameOptions

-- those of a reader of frames
abbrev pub terms_by : Rows → (seed : ℕ) → FrameReader → Terms
terms_by rows seed reader = record { rows = rows; seed = seed; mode = reader.mode; number = reader.number; options = reader.options }

-- ---- the decision of a record

-- the certificate of these bytes, if they are the file of one
abbrev pub file_in : Result File CertFault → Option File
file_in (Ok file) = Some file
file_in (Err fault) = None

-- a certificate, as a view for these rows
abbrev pub certificate_of : Rows → Option File → Option View
certificate_of rows None = None
certificate_of rows (Some file) = Some (view_of rows file)

-- the decision on a frame's symbols by a verdict, and by the bits, the certificate and the rounds of a record
abbrev pub decision_by : Terms → List Symbol → Verdict → Record → Decision
decision_by t symbols verdict r =
    decision_with t.mode t.number t.options symbols (soft_frame t.mode t.number t.options symbols) verdict r.bits (certificate_of t.rows (file_in (file_of_bytes r.certificate))) r.rounds

-- the symbols of the frame that begins at a position of a recording
abbrev pub frame_at : Terms → (recording : List Symbol) → (at : ℕ) → List Symbol
frame_at t recording at = take (symbols_in t.mode) (drop at recording)

-- A record is true if it has the decision of the receiver's rule on the frame at its position. An end record has none
abbrev pub IsTrueRecord : Terms → (decide : List Symbol → Decision) → (recording : List Symbol) → Record → Type 0
IsTrueRecord t decide recording r = IfSome r.verdict (λ verdict. decision_by t (frame_at t recording r.at) verdict r ≡ decide (frame_at t recording r.at))

-- its seal is that of the frame at its position
abbrev pub IsSealed : Terms → (recording : List Symbol) → Record → Type 0
IsSealed t recording r = r.seal ≡ seal_of t.seed (soft_frame t.mode t.number t.options (frame_at t recording r.at)) r

-- ---- the frame of a record

-- a frame that a record decided: its position, its symbols, the decision, and the data field that is lent with it
pub record RecordedFrame : Type 0 where
  pub at : ℕ
  pub symbols : List Symbol
  pub decision : Decision
  pub field : List ℕ

-- the decision on a frame with these soft values, bits, certificate and message, and with these results
abbrev pub shown_decision : (soft : List ℤ) → (bits : List Bool) → Option View → (message : List Bool) → Decided → (field : List ℕ) → Decision
shown_decision soft bits certificate message d field = record {
  soft = soft;
  bits = bits;
  verdict = d.verdict;
  certificate = certificate;
  message = message;
  outcome = d.outcome;
  delivered = delivered_of d.header field;
  figures = d.figures;
  energy = d.energy;
  turn = d.turn;
}

-- its certificate, if it has one, suits the rows, and the joiner can take its data field
pub record IsRecordedFrame (rows : Rows) (certificate : Option File) (d : Decided) (field : List ℕ) : Type 0 where
  pub suits : IfSome certificate (Suits rows)
  pub place : IfSome d.header (HasPlace field)

-- it is the frame of this record, decided by it, and the record has its seal
pub record IsFrameOf (t : Terms) (r : Record) (f : RecordedFrame) : Type 0 where
  pub place : f.at ≡ r.at
  pub decided : (verdict : Verdict) × (r.verdict ≡ Some verdict) × (f.decision ≡ decision_by t f.symbols verdict r)
  pub sealed : r.seal ≡ seal_of t.seed f.decision.soft r
