-- The known contents of the files of `judge`, and how many calls of each have failed (own).
use Rattle.std.specs.Prelude.{◌≡◌, ℕ, Bool, true, false, List, Option, Some, None}
use Rattle.s2_mode.specs.Counts.{CanCount}
use Rattle.s2_io.specs.declared.output.Destination.{Destination}

-- A file to be written, if there is one: whether it was begun, its contents, and how many of its calls have failed. If
-- there is none, its contents are not known, and no call fails
pub record Written : Type 0 where
  pub asked : Bool
  pub begun : Bool
  pub contents : Option (List ℕ)
  pub failed : ℕ

-- the state of a file for a certificate, if there is one: begun or not, its contents, and how many calls have failed
abbrev pub written : {C : Type 0} → (C → Option (List ℕ)) → (C → ℕ) → Option (Destination C) → Written
written contents count (Some file) =
    record { asked = true; begun = file.begun; contents = contents file.to; failed = count file.to }
written contents count None = record { asked = false; begun = false; contents = None; failed = 0 }

-- it is not begun so far, and one more failed call can be counted
abbrev pub CanBegin : Written → Type 0
CanBegin file = (file.begun ≡ false) × CanCount file.failed

-- the unread bytes of a row file and a value file, and the file for a certificate
pub record JudgeFiles : Type 0 where
  pub rows : Option (List ℕ)
  pub soft : Option (List ℕ)
  pub rows_failed : ℕ
  pub soft_failed : ℕ
  pub certificate : Written

-- the certificate's file is not begun so far, and one more failed call of each can be counted
abbrev pub CanJudge : JudgeFiles → Type 0
CanJudge files = CanCount files.rows_failed × CanCount files.soft_failed × CanBegin files.certificate
