-- A judge's value, and the invariants of its parts (own).
use Rattle.std.specs.Prelude.{◌≡◌, ◌≤◌, ℕ, Bool, List, All, length, ℤ, Option, None, Some}
use Rattle.s2_rows.specs.Rows.{Rows}
use Rattle.s2_matrix.specs.Code.{code_of}
use Rattle.s2_check.specs.Views.{View, IsSoft, unsplit_view}
use Rattle.s2_check.specs.declared.verdict.Verdict.{Verdict}
use Rattle.s2_check.specs.declared.verdict.Verdict.TheVariants.{Parity, Broken}
use Rattle.s2_split.specs.Making.{Shared, shared_views}
use Rattle.s2_minsum.specs.Decoding.{Decoding}
use Rattle.s2_tuning.specs.Tuning.{Tuning}
use Rattle.s2_judge.specs.declared.evidence.Evidence.{Evidence}
use Rattle.s2_judge.specs.declared.evidence.Evidence.TheVariants.{HardDecision, Found, Checks, Nothing}
use Rattle.s2_judge.specs.Deciding.{Decided, verdict_by}
use Rattle.s2_judge.specs.Certifying.{Certifying}

-- the rows of its matrix, its tuning, its soft values, the bits that were last decided, their certificate, and the
-- rounds of min-sum that this took
pub record Judging : Type 0 where
  pub rows : Rows
  pub tuning : Tuning
  pub soft : List ℤ
  pub bits : List Bool
  pub certificate : Option View
  pub rounds : ℕ

-- the verdict on some evidence
abbrev pub verdict_of : Evidence → Verdict
verdict_of (HardDecision strict) = verdict_by strict
verdict_of (Found strict) = verdict_by strict
verdict_of Checks = Parity
verdict_of Nothing = Broken

-- the certificate in the evidence: without shares, or with those that were found
abbrev pub view_by : Rows → List ℤ → List Bool → Option Shared → Evidence → Option View
view_by r soft bits found (HardDecision strict) = Some (unsplit_view r soft bits)
view_by r soft bits found (Found strict) = shared_views r soft bits found
view_by r soft bits found Checks = None
view_by r soft bits found Nothing = None

-- the decision on some evidence
abbrev pub shown_by : Rows → List ℤ → List Bool → Option Shared → Evidence → Decided
shown_by r soft bits found evidence =
    record { verdict = verdict_of evidence; bits = bits; certificate = view_by r soft bits found evidence }

-- if the evidence is a certificate, the values are soft values
abbrev pub IsEvidence : List ℤ → Evidence → Type 0
IsEvidence soft (HardDecision strict) = All IsSoft soft
IsEvidence soft (Found strict) = All IsSoft soft
IsEvidence soft Checks = Unit
IsEvidence soft Nothing = Unit

-- the invariant of a judge
pub record IsJudge (tuning : Tuning) (certifier : Certifying) (decoder : Decoding) (soft : List ℤ) (repair bits : List Bool) (evidence : Evidence) : Type 0 where
  pub some : 1 ≤ tuning.rounds
  pub passes : certifier.passes ≡ tuning.passes
  pub decoder_rows : decoder.rows ≡ certifier.rows
  pub soft_long : length soft ≡ (code_of certifier.rows).bits
  pub repair_long : length repair ≡ (code_of certifier.rows).bits
  pub bits_long : length bits ≡ (code_of certifier.rows).bits
  pub by : IsEvidence soft evidence
