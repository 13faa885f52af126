-- A device's word for a frame, beside the certified one (own).
use Rattle.std.specs.Prelude.{◌≡◌, ◌≢◌, ◌⊎◌, ℕ, ◌%◌, ◌==◌, List, Bool, true, false, length, count_by, Option, Some, None, ℤ, ◌<ℤ◌}
use Rattle.s2_bits.specs.Bits.{differences}
use Rattle.s2_rows.specs.Rows.{Rows}
use Rattle.s2_matrix.specs.Total.{upto}
use Rattle.s2_matrix.specs.Code.{Code, code_of, ones_in, IsCodeword}
use Rattle.s2_certfile.specs.File.{File}
use Rattle.s2_check.specs.Cost.{cost, IsMostLikely}
use Rattle.s2_check.specs.Views.{View}
use Rattle.s2_check.specs.Checking.{IsCertificate}
use Rattle.s2_check.specs.CertificateFiles.{Suits, view_of}
use Rattle.s2_check.specs.Strict.{IsStrict, IsSole}
use Rattle.s2_check.specs.declared.verdict.Verdict.{Verdict}
use Rattle.s2_check.specs.declared.verdict.Verdict.TheVariants as verdicts
use Rattle.s2_compare.specs.declared.compared.Compared.{Compared}
use Rattle.s2_compare.specs.declared.compared.Compared.TheVariants as answers

-- what an accepted certificate shows of its word: it is sole if the certificate is strict, else most likely
abbrev pub Shows : Rows → View → Verdict → Type 0
Shows rows view verdicts.Sole = IsStrict rows view
Shows rows view verdicts.MostLikely = IsStrict rows view → ⊥
Shows rows view verdicts.Parity = ⊥
Shows rows view verdicts.Broken = ⊥

-- how many checks of a code do not hold for a word
abbrev pub odd_checks : Code → List Bool → ℕ
odd_checks code word = count_by (λ j. ones_in code word j % 2 == 1) (upto code.checks)

-- in how many bits a word differs from the certified one
abbrev pub changed_bits : View → List Bool → ℕ
changed_bits view word = differences (length word) word view.bits

-- the device's word is the certified one
pub record IsSame (rows : Rows) (view : View) (word : List Bool) (verdict : Verdict) (paid : ℤ) : Type 0 where
  pub accepted : IsCertificate rows view
  pub shown : Shows rows view verdict
  pub same : word ≡ view.bits
  pub costs : paid ≡ cost view.soft view.bits

-- it is another codeword, of the same cost
pub record IsEqual (rows : Rows) (view : View) (word : List Bool) (paid : ℤ) (changed : ℕ) : Type 0 where
  pub accepted : IsCertificate rows view
  pub codeword : IsCodeword (code_of rows) word
  pub other : word ≢ view.bits
  pub costs : paid ≡ cost view.soft word
  pub least : paid ≡ cost view.soft view.bits
  pub changes : changed ≡ changed_bits view word

-- it is a codeword that costs more
pub record IsWorse (rows : Rows) (view : View) (word : List Bool) (paid best : ℤ) (changed : ℕ) : Type 0 where
  pub accepted : IsCertificate rows view
  pub codeword : IsCodeword (code_of rows) word
  pub costs : paid ≡ cost view.soft word
  pub least : best ≡ cost view.soft view.bits
  pub more : best <ℤ paid
  pub changes : changed ≡ changed_bits view word

-- it is no codeword, and this number of checks do not hold
pub record IsNoCodeword (rows : Rows) (view : View) (word : List Bool) (checks changed : ℕ) : Type 0 where
  pub accepted : IsCertificate rows view
  pub broken : IsCodeword (code_of rows) word → ⊥
  pub fails : checks ≡ odd_checks (code_of rows) word
  pub changes : changed ≡ changed_bits view word

-- the answer for a word that the device delivered
abbrev pub AnswersWord : Rows → View → List Bool → Compared → Type 0
AnswersWord rows view word (answers.Same verdict paid) = IsSame rows view word verdict paid
AnswersWord rows view word (answers.Equal paid changed) = IsEqual rows view word paid changed
AnswersWord rows view word (answers.Worse paid best changed) = IsWorse rows view word paid best changed
AnswersWord rows view word (answers.NoCodeword checks changed) = IsNoCodeword rows view word checks changed
AnswersWord rows view word answers.Refused = IsCertificate rows view → ⊥
AnswersWord rows view word answers.Missing = ⊥

-- the answer if it delivered nothing
abbrev pub AnswersNothing : Rows → View → Compared → Type 0
AnswersNothing rows view (answers.Same verdict paid) = ⊥
AnswersNothing rows view (answers.Equal paid changed) = ⊥
AnswersNothing rows view (answers.Worse paid best changed) = ⊥
AnswersNothing rows view (answers.NoCodeword checks changed) = ⊥
AnswersNothing rows view answers.Refused = IsCertificate rows view → ⊥
AnswersNothing rows view answers.Missing = IsCertificate rows view

-- what a device delivered: this word, or nothing
abbrev pub given : Bool → List Bool → Option (List Bool)
given true word = Some word
given false word = None

-- the answer for what the device delivered: a word, or nothing
abbrev pub Answers : Rows → View → Option (List Bool) → Compared → Type 0
Answers rows view (Some word) answer = AnswersWord rows view word answer
Answers rows view None answer = AnswersNothing rows view answer

-- the answer for the certificate of a file; one that the rows do not suit is refused
abbrev pub Compares : Rows → File → Option (List Bool) → Compared → Type 0
Compares rows file device answer =
    (Suits rows file × Answers rows (view_of rows file) device answer) ⊎ ((Suits rows file → ⊥) × (answer ≡ answers.Refused))

-- ---- laws

-- a word that is the certified one, or costs as much, is most likely
abbrev pub LikelyLaw : Type 0
LikelyLaw =
    (rows : Rows) (view : View) (word : List Bool)
    → ((verdict : Verdict) (paid : ℤ) → IsSame rows view word verdict paid → IsMostLikely (code_of rows) view.soft word)
    × ((paid : ℤ) (changed : ℕ) → IsEqual rows view word paid changed → IsMostLikely (code_of rows) view.soft word)

-- a word that costs more is not most likely: the device did not decide by maximum likelihood
abbrev pub WorseLaw : Type 0
WorseLaw =
    (rows : Rows) (view : View) (word : List Bool) (paid best : ℤ) (changed : ℕ) → IsWorse rows view word paid best changed
    → IsMostLikely (code_of rows) view.soft word → ⊥

-- another word of the same cost comes only under a certificate that is not strict
abbrev pub EqualLaw : Type 0
EqualLaw =
    (rows : Rows) (view : View) (word : List Bool) (paid : ℤ) (changed : ℕ) → IsEqual rows view word paid changed
    → IsStrict rows view → ⊥
