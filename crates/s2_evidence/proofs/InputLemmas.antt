-- What rows and a certificate say, put together.
use Rattle.std.proofs.Common.{◌≡◌, ℕ, List, Option, Some, None, Result, Ok, Err, ap, ◌∙◌, sym}
use Rattle.std.specs.Prelude.{IfSome}
use Rattle.s2_mode.specs.Shape.{Shape}
use Rattle.s2_rows.specs.Rows.{Rows}
use Rattle.s2_rows.specs.RowFiles as row_files
use Rattle.s2_certfile.specs.File.{File}
use Rattle.s2_certfile.specs.Format.{file_of_bytes}
use Rattle.s2_io.specs.declared.printed.Printed.{Printed}
use Rattle.s2_io.specs.declared.exit.Exit.{Exit}
use Rattle.s2_io.specs.declared.fault.Fault.{Fault}
use Rattle.s2_io.specs.declared.fault.Fault.TheVariants as faults
use Rattle.s2_io.specs.Exits.{Follows, CommandAnswers}
use Rattle.s2_inputs.specs.Inputs.{taken, rows_said}
use Rattle.s2_evidence.specs.Checking.{certificate_said, with_rows, beside, then_parts, parts_in, ArePartsIn, AreCheckInputs, IsAnswered}
use Rattle.s2_io.proofs.CommandLemmas.{answers_moved, refuses}

-- what is refused is answered
pub is_refused : {I : Type 0} → (Says : I → Exit → List ℕ → Type 0) (IsInput : Result I Fault → Type 0) (f : Fault) → IsInput (Err f) → CommandAnswers Says IsInput (Err f)
is_refused Says IsInput faults.Read h = tt
is_refused Says IsInput faults.Write h = tt
is_refused Says IsInput faults.NoMemory h = tt
is_refused Says IsInput (faults.Open name) h = h
is_refused Says IsInput (faults.UsedTwice name) h = h
is_refused Says IsInput faults.TooLong h = h
is_refused Says IsInput (faults.Rows words) h = h
is_refused Says IsInput (faults.Refused words) h = h

-- what two files in memory say, where this is the certificate
pub parts_of : (text certificate : List ℕ) (file : File) (shape : Shape) → certificate_said (file_of_bytes certificate) ≡ Ok file → shape ≡ file.shape
    → parts_in text certificate ≡ beside file (rows_said shape (row_files.rows_of_text text shape))
parts_of text certificate file shape is same =
    ap (with_rows text) is ∙ ap (λ s. beside file (rows_said s (row_files.rows_of_text text s))) (sym same)

pub both_taken : (a b : Result (List ℕ) Fault) (rows certificate : List ℕ) → a ≡ Ok rows → b ≡ Ok certificate → then_parts a b ≡ parts_in rows certificate
both_taken a b rows certificate p q = ap (λ x. then_parts x b) p ∙ ap (then_parts (Ok rows)) q

said_of_files : (known_rows known_certificate : Option (List ℕ)) (rows certificate : List ℕ) (said : Result (Rows × File) Fault)
    → IfSome known_rows (λ xs. taken xs ≡ Ok rows) → IfSome known_certificate (λ ys. taken ys ≡ Ok certificate) → ArePartsIn rows certificate said → AreCheckInputs known_rows known_certificate said
said_of_files None known_certificate rows certificate said p q h = tt
said_of_files (Some xs) None rows certificate said p q h = tt
said_of_files (Some xs) (Some ys) rows certificate said p q h = both_taken (taken xs) (taken ys) rows certificate p q ∙ h

-- one that was not read
pub rows_unread : (known_rows known_certificate : Option (List ℕ)) (f : Fault) → IfSome known_rows (λ xs. Follows {V = List ℕ} (λ v. v) (Err f) (taken xs))
    → CommandAnswers IsAnswered (AreCheckInputs known_rows known_certificate) (Err f)
rows_unread None known_certificate f h = is_refused IsAnswered (AreCheckInputs None known_certificate) f tt
rows_unread (Some xs) None f h = is_refused IsAnswered (AreCheckInputs (Some xs) None) f tt
rows_unread (Some xs) (Some ys) f h =
    refuses IsAnswered (AreCheckInputs (Some xs) (Some ys)) (λ (v : List ℕ). v) f (taken xs) (λ e. ap (λ x. then_parts x (taken ys)) e) h

pub certificate_unread : (known_rows known_certificate : Option (List ℕ)) (rows : List ℕ) (f : Fault) → IfSome known_rows (λ xs. taken xs ≡ Ok rows)
    → IfSome known_certificate (λ ys. Follows {V = List ℕ} (λ v. v) (Err f) (taken ys)) → CommandAnswers IsAnswered (AreCheckInputs known_rows known_certificate) (Err f)
certificate_unread None known_certificate rows f p h = is_refused IsAnswered (AreCheckInputs None known_certificate) f tt
certificate_unread (Some xs) None rows f p h = is_refused IsAnswered (AreCheckInputs (Some xs) None) f tt
certificate_unread (Some xs) (Some ys) rows f p h =
    refuses IsAnswered (AreCheckInputs (Some xs) (Some ys)) (λ (v : List ℕ). v) f (taken ys) (λ e. ap (λ x. then_parts x (taken ys)) p ∙ ap (then_parts (Ok rows)) e) h

-- the answer on two files that were read
pub answers_on_files : (known_rows known_certificate : Option (List ℕ)) (rows certificate : List ℕ) (made : Result Printed Fault)
    → IfSome known_rows (λ xs. taken xs ≡ Ok rows) → IfSome known_certificate (λ ys. taken ys ≡ Ok certificate)
    → CommandAnswers IsAnswered (ArePartsIn rows certificate) made → CommandAnswers IsAnswered (AreCheckInputs known_rows known_certificate) made
answers_on_files known_rows known_certificate rows certificate made p q h =
    answers_moved IsAnswered (ArePartsIn rows certificate) (AreCheckInputs known_rows known_certificate) made
    (λ said. said_of_files known_rows known_certificate rows certificate said p q) h
