-- What `judge` writes to its certificate's file, if there is one (own).
use Rattle.std.specs.Prelude.{◌≡◌, ◌≢◌, ◌⊎◌, ℕ, ◌+◌, ℤ, Bool, List, Option, Some, None, Result, Ok, Err, IfOk, OnErr}
use Rattle.std.specs.Io.KnownBytes.{Appends}
use Rattle.s2_mode.specs.Pieces.{AppendsPart}
use Rattle.s2_mode.specs.Shape.{Shape}
use Rattle.s2_rows.specs.Rows.{Rows}
use Rattle.s2_check.specs.CertificateBytes.{bytes_of}
use Rattle.s2_check.specs.Views.{View}
use Rattle.s2_tuning.specs.Tuning.{Tuning}
use Rattle.s2_judge.specs.Deciding.{decided, IsShown}
use Rattle.s2_io.specs.declared.exit.Exit.{Exit}
use Rattle.s2_io.specs.declared.fault.Fault.{Fault}
use Rattle.s2_io.specs.declared.fault.Fault.TheVariants as faults
use Rattle.s2_io.specs.Exits.{CommandRuns, CommandCounts}
use Rattle.s2_io.specs.Screens.{Screen}
use Rattle.s2_judging.specs.declared.hard_note.Ran.{Ran}
use Rattle.s2_judging.specs.Files.{Written, JudgeFiles}
use Rattle.s2_judging.specs.HardNotes.{exit_in, LooksHard, Concludes}
use Rattle.s2_judging.specs.Inputs.{AreInputsBy}
use Rattle.s2_judging.specs.Judging.{IsJudged}

-- a certificate's bytes are written, or nothing if there is none
abbrev pub Writes : Option View → Option (List ℕ) → Option (List ℕ) → Type 0
Writes None old new = new ≡ old
Writes (Some view) old new = Appends old new (bytes_of view)

-- A certificate's bytes are written in part, from the first one on, and not all. Without a certificate nothing is
-- written: the file could not be truncated
abbrev pub WritesPart : Option View → Option (List ℕ) → Option (List ℕ) → Type 0
WritesPart None old new = new ≡ old
WritesPart (Some view) old new = AppendsPart (bytes_of view) old new

-- if there is a file, it was begun, and the certificate written
pub record Wrote (view : Option View) (old new : Written) : Type 0 where
  pub asked : new.asked ≡ old.asked
  pub begun : new.begun ≡ old.asked
  pub counted : new.failed ≡ old.failed
  pub bytes : Writes view old.contents new.contents

-- its writer failed: it was begun, and a part of the certificate written
pub record WrotePart (view : Option View) (old new : Written) : Type 0 where
  pub asked : new.asked ≡ old.asked
  pub begun : new.begun ≡ old.asked
  pub counted : new.failed ≡ old.failed + 1
  pub bytes : WritesPart view old.contents new.contents

-- This is done with the certificate of the bits that are decided on an input. It is accepted. There is one exactly if
-- the bits are called sole or most likely
pub record IsCertified (tuning : Tuning) (input : Rows × List ℤ) (Done : Option View → Type 0) : Type 0 where
  pub shown : IsShown input.0 input.1 (decided input.0 tuning input.1)
  pub done : Done (decided input.0 tuning input.1).certificate

-- the text printed for an input, and the bytes written before it
abbrev pub IsJudgedAndCertified : (hard : Bool) → Tuning → Written → Written → Rows × List ℤ → Exit → List ℕ → Type 0
IsJudgedAndCertified hard tuning old new input exit text =
    IsJudged hard tuning input exit text × IsCertified tuning input (λ view. Wrote view old new)

-- What a failed command leaves of the file. If a writer failed, the input was accepted and the file begun: it has the
-- whole certificate, or a part if its own writer failed. If the input is refused, memory ran out or a reader failed,
-- the file is unchanged, and not begun
pub record LeavesCertificate {T : Type 0} (tuning : Tuning) (IsInput : Result (Rows × List ℤ) Fault → Type 0) (ended : Result T Fault) (old new : Written) : Type 0 where
  pub failed : ended ≡ Err faults.Write
      → (input : Rows × List ℤ) × IsInput (Ok input) × IsCertified tuning input (λ view. Wrote view old new ⊎ WrotePart view old new)
  pub other : OnErr ended (ended ≢ Err faults.Write → new ≡ old)

-- `judge` has ended. The verdict on its files' input is printed, and the certificate written before it. Only failed
-- calls were counted, and the note or the line of a fault is on the errors
abbrev pub JudgeExits : (hard quiet : Bool) → Tuning → Shape → JudgeFiles → JudgeFiles → Screen → Screen → Exit → Type 0
JudgeExits hard quiet tuning shape files files_after old new exit =
    (ran : Result Ran Fault)
    × CommandRuns (IsJudgedAndCertified hard tuning files.certificate files_after.certificate) (AreInputsBy hard shape files.rows files.soft) (exit_in ran) old.output new.output
    × IfOk ran (LooksHard (AreInputsBy hard shape files.rows files.soft))
    × LeavesCertificate tuning (AreInputsBy hard shape files.rows files.soft) (exit_in ran) files.certificate files_after.certificate
    × CommandCounts (exit_in ran) (files.rows_failed + files.soft_failed) (files_after.rows_failed + files_after.soft_failed)
    (files.certificate.failed + old.output_failed) (files_after.certificate.failed + new.output_failed)
    × Concludes hard quiet ran exit old new
