-- Laws of stitching (own).
use Rattle.std.specs.Prelude.{◌≡◌, ℕ, Bool, List, Option, Some, None}
use Rattle.s2_mode.specs.declared.symbols.Symbol.{Symbol}
use Rattle.s2_rows.specs.Rows.{Rows}
use Rattle.s2_certfile.specs.Format.{file_of_bytes}
use Rattle.s2_check.specs.Views.{View}
use Rattle.s2_check.specs.declared.verdict.Verdict.{Verdict}
use Rattle.s2_receive.specs.Halves.{IsOwn, decisions_on, met_in}
use Rattle.s2_receive.specs.Receiving.{Decision, Rules}
use Rattle.s2_message.specs.Decisions.{decision_with, soft_frame}
use Rattle.s2_stitch.specs.Frames.{IsTrueRecord, Terms, certificate_of, file_in, frame_at}
use Rattle.s2_stitch.specs.Records.{Record}

-- a record has this verdict, these bits, the file of this certificate, and this number of rounds
pub record IsRecordBy (rows : Rows) (verdict : Verdict) (bits : List Bool) (certificate : Option View) (rounds : ℕ) (r : Record) : Type 0 where
  pub verdict_is : r.verdict ≡ Some verdict
  pub bits_are : r.bits ≡ bits
  pub certificate_is : certificate_of rows (file_in (file_of_bytes r.certificate)) ≡ certificate
  pub rounds_are : r.rounds ≡ rounds

-- A record of the bits by which a frame was decided is true
abbrev pub MadeTrueLaw : Type 0
MadeTrueLaw =
    (t : Terms) (decide : List Symbol → Decision) (recording : List Symbol) (r : Record) (verdict : Verdict) (bits : List Bool) (certificate : Option View) (rounds : ℕ)
    → decide (frame_at t recording r.at)
    ≡ decision_with t.mode t.number t.options (frame_at t recording r.at) (soft_frame t.mode t.number t.options (frame_at t recording r.at)) verdict bits certificate rounds
    → IsRecordBy t.rows verdict bits certificate rounds r → IsTrueRecord t decide recording r

-- a rule without the certificates of its decisions, for records without certificates
abbrev pub uncertified : (List Symbol → Decision) → List Symbol → Decision
uncertified decide symbols = record (decide symbols) { certificate = None }

-- A receiver that drops the certificates of its decisions has the same lines and packets
abbrev pub UncertifiedLaw : Type 0
UncertifiedLaw =
    (rules : Rules) (recording : List Symbol) (decisions : List Decision) (lines : List (List ℕ)) (packets : List ℕ)
    → IsOwn (record rules { decide = uncertified rules.decide }) recording decisions lines packets → IsOwn rules recording (decisions_on rules.decide (met_in rules recording)) lines packets
