-- What `check` reads, and what it prints of a certificate (own).
use Rattle.std.specs.Prelude.{◌≡◌, ◌↔◌, ◌⊎◌, IsTrue, ℕ, List, ◌++◌, Option, IfSome, codes, pos, Result, Ok, Err}
use Rattle.s2_rows.specs.Rows.{Rows}
use Rattle.s2_rows.specs.RowFiles as row_files
use Rattle.s2_matrix.specs.Code.{code_of}
use Rattle.s2_check.specs.Cost.{cost, IsMostLikely}
use Rattle.s2_check.specs.Views.{View}
use Rattle.s2_check.specs.Checking.{Checks}
use Rattle.s2_check.specs.CertificateFiles.{Suits, view_of}
use Rattle.s2_check.specs.Strict.{IsStrict, IsSole}
use Rattle.s2_certfile.specs.File.{File}
use Rattle.s2_certfile.specs.Format.{file_of_bytes}
use Rattle.s2_certfile.specs.FaultTexts.{certificate_fault_text}
use Rattle.s2_certfile.specs.declared.fault.CertFault.{CertFault}
use Rattle.s2_certfile.specs.declared.fault.CertFault.TheVariants as cert_faults
use Rattle.s2_check.specs.declared.checker.Answer.{Answer}
use Rattle.s2_check.specs.declared.checker.Answer.TheVariants as answers
use Rattle.s2_check.specs.declared.checker.Examined.{Examined}
use Rattle.s2_check.specs.declared.checker.Refusal.TheVariants.{OtherShape}
use Rattle.s2_io.specs.declared.exit.Exit.{Exit}
use Rattle.s2_io.specs.declared.exit.Exit.TheVariants as exits
use Rattle.s2_io.specs.declared.fault.Fault.{Fault}
use Rattle.s2_io.specs.declared.fault.Fault.TheVariants as faults
use Rattle.s2_io.specs.Exits.{CommandExits}
use Rattle.s2_io.specs.Screens.{Screen}
use Rattle.s2_inputs.specs.Inputs.{taken, rows_said}
use Rattle.s2_evidence.specs.Lines.{answer_line, examined_line}

-- ---- the input

-- the words for a refused certificate: if bytes follow one, they name the option for several
abbrev pub refusal_text : CertFault → List ℕ
refusal_text cert_faults.Extra = codes "extra: several certificates need --each"
refusal_text e = certificate_fault_text e

abbrev pub certificate_said : Result File CertFault → Result File Fault
certificate_said (Ok file) = Ok file
certificate_said (Err e) = Err (faults.Refused (codes "certificate: " ++ refusal_text e))

abbrev pub beside : File → Result Rows Fault → Result (Rows × File) Fault
beside file (Ok rows) = Ok (rows, file)
beside file (Err f) = Err f

-- the rows by the certificate's shape
abbrev pub with_rows : List ℕ → Result File Fault → Result (Rows × File) Fault
with_rows text (Ok file) = beside file (rows_said file.shape (row_files.rows_of_text text file.shape))
with_rows text (Err f) = Err f

-- the contents of two files in memory: the certificate is parsed first
abbrev pub parts_in : List ℕ → List ℕ → Result (Rows × File) Fault
parts_in rows certificate = with_rows rows (certificate_said (file_of_bytes certificate))

abbrev pub then_parts : Result (List ℕ) Fault → Result (List ℕ) Fault → Result (Rows × File) Fault
then_parts (Err f) certificate = Err f
then_parts (Ok rows) (Err f) = Err f
then_parts (Ok rows) (Ok certificate) = parts_in rows certificate

-- the bytes of the row file, then those of the certificate, then what they say
abbrev pub check_inputs : List ℕ → List ℕ → Result (Rows × File) Fault
check_inputs rows certificate = then_parts (taken rows) (taken certificate)

-- the result is what two files in memory say
abbrev pub ArePartsIn : List ℕ → List ℕ → Result (Rows × File) Fault → Type 0
ArePartsIn rows certificate said = parts_in rows certificate ≡ said

-- the result is what a row file and a certificate say, if their bytes are known
abbrev pub AreCheckInputs : Option (List ℕ) → Option (List ℕ) → Result (Rows × File) Fault → Type 0
AreCheckInputs rows certificate said = IfSome rows (λ xs. IfSome certificate (λ ys. check_inputs xs ys ≡ said))

-- ---- the answer

-- exit 0 for yes, else 2
abbrev pub answer_exit : Answer → Exit
answer_exit answers.Yes = exits.Fine
answer_exit (answers.No refusal) = exits.No

-- The checker's result, its line with the cost of the certificate's bits, and its exit. After a yes the bits are most
-- likely, and sole if the certificate is strict
pub record SaysAnswer (rows : Rows) (view : View) (exit : Exit) (text : List ℕ) : Type 0 where
  pub found : Examined
  pub checked : Checks rows view found.answer
  pub strict : IsTrue found.strict ↔ IsStrict rows view
  pub likely : found.answer ≡ answers.Yes → IsMostLikely (code_of rows) view.soft view.bits
  pub sole : IsTrue found.strict → IsSole (code_of rows) view.soft view.bits
  pub line : text ≡ examined_line (cost view.soft view.bits) found
  pub ends : exit ≡ answer_exit found.answer

-- a certificate that the rows don't suit has another shape
pub record SaysNoShape (rows : Rows) (file : File) (exit : Exit) (text : List ℕ) : Type 0 where
  pub unsuited : Suits rows file → ⊥
  pub line : text ≡ answer_line (pos 0) (answers.No OtherShape)
  pub answer_is_no : exit ≡ exits.No

-- one that they suit is examined
abbrev pub IsAnswered : Rows × File → Exit → List ℕ → Type 0
IsAnswered input exit text =
    (Suits input.0 input.1 × SaysAnswer input.0 (view_of input.0 input.1) exit text) ⊎ SaysNoShape input.0 input.1 exit text

-- `check` has ended: it ran on the contents of its files, with these counts of failed reads before and after
abbrev pub CheckExits : Option (List ℕ) → Option (List ℕ) → Screen → Screen → Exit → ℕ → ℕ → Type 0
CheckExits rows certificate old new exit reads reads_after =
    CommandExits IsAnswered (AreCheckInputs rows certificate) reads reads_after old new exit
