-- What a certificate shows about the soft values of a frame, and what bits show by themselves (own).
use Rattle.std.specs.Prelude.{◌≡◌, ◌≢◌, ◌⊎◌, ℕ, ℤ, Bool, List, Result, Ok, Err}
use Rattle.s2_rows.specs.Rows.{Rows}
use Rattle.s2_matrix.specs.Code.{code_of, IsCodeword}
use Rattle.s2_certfile.specs.File.{File}
use Rattle.s2_certfile.specs.Format.{file_of_bytes}
use Rattle.s2_certfile.specs.declared.fault.CertFault.{CertFault}
use Rattle.s2_check.specs.CertificateFiles.{view_of, Suits}
use Rattle.s2_check.specs.Checking.{IsCertificate}
use Rattle.s2_check.specs.Cost.{cost}
use Rattle.s2_check.specs.Strict.{IsStrict}
use Rattle.s2_check.specs.Views.{View}
use Rattle.s2_check.specs.declared.verdict.Verdict.{Verdict}
use Rattle.s2_check.specs.declared.verdict.Verdict.TheVariants.{Sole, MostLikely, Parity, Broken}
use Rattle.s2_replay.specs.declared.certificates.Refusal.TheVariants as refusals
use Rattle.s2_replay.specs.declared.certificates.Shown.{Shown}
use Rattle.s2_replay.specs.declared.certificates.Shown.TheVariants.{Word, Refused}

-- ---- verdicts

-- the bits of an accepted certificate are `sole` if it is strict, else `most-likely`
abbrev pub IsCertifiedVerdict : Rows → View → Verdict → Type 0
IsCertifiedVerdict rows view verdict = (IsStrict rows view × (verdict ≡ Sole)) ⊎ (¬ IsStrict rows view × (verdict ≡ MostLikely))

-- bits without a certificate are `parity` if they satisfy all checks, else `broken`
abbrev pub IsParityVerdict : Rows → List Bool → Verdict → Type 0
IsParityVerdict rows bits verdict = (IsCodeword (code_of rows) bits × (verdict ≡ Parity)) ⊎ (¬ IsCodeword (code_of rows) bits × (verdict ≡ Broken))

-- ---- a certificate

-- an accepted certificate over exactly these soft values, which shows this verdict on these bits
pub record Certifies (rows : Rows) (soft : List ℤ) (verdict : Verdict) (bits : List Bool) (view : View) : Type 0 where
  pub values : view.soft ≡ soft
  pub accepted : IsCertificate rows view
  pub verdict_is : IsCertifiedVerdict rows view verdict
  pub bits_are : view.bits ≡ bits

-- what a certificate as a view for its rows shows: a verdict on its bits, and their cost; or the first reason why it shows none
abbrev pub ShowsView : Rows → List ℤ → (bits : List Bool) → View → Shown → Type 0
ShowsView rows soft bits view (Word verdict paid) = Certifies rows soft verdict bits view × (paid ≡ cost view.soft view.bits)
ShowsView rows soft bits view (Refused refusals.OtherValues) = view.soft ≢ soft
ShowsView rows soft bits view (Refused refusals.NotAccepted) = (view.soft ≡ soft) × ¬ IsCertificate rows view

-- the same of a file; one with another shape than the rows is not accepted
abbrev pub ShowsFile : Rows → List ℤ → (bits : List Bool) → File → Shown → Type 0
ShowsFile rows soft bits file shown =
    (Suits rows file × ShowsView rows soft bits (view_of rows file) shown) ⊎ (¬ Suits rows file × (shown ≡ Refused refusals.NotAccepted))

-- bytes that are no certificate are not accepted
abbrev pub ShowsParsed : Rows → List ℤ → (bits : List Bool) → Result File CertFault → Shown → Type 0
ShowsParsed rows soft bits (Ok file) shown = ShowsFile rows soft bits file shown
ShowsParsed rows soft bits (Err fault) shown = shown ≡ Refused refusals.NotAccepted

-- what the bytes of a certificate show
abbrev pub Shows : Rows → List ℤ → (bits : List Bool) → List ℕ → Shown → Type 0
Shows rows soft bits bytes shown = ShowsParsed rows soft bits (file_of_bytes bytes) shown
