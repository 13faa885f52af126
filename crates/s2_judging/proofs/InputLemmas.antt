-- What rows and soft values say, put together.
use Rattle.std.proofs.Common.{◌≡◌, ℕ, ℤ, Bool, List, Option, Some, None, Result, Ok, Err, ap, ◌∙◌, subst, sym}
use Rattle.std.specs.Prelude.{IfSome}
use Rattle.s2_mode.specs.Shape.{Shape}
use Rattle.s2_rows.specs.Rows.{Rows}
use Rattle.s2_io.specs.declared.printed.Printed.{Printed}
use Rattle.s2_io.specs.declared.exit.Exit.{Exit}
use Rattle.s2_io.specs.declared.fault.Fault.{Fault}
use Rattle.s2_io.specs.declared.fault.Fault.TheVariants as faults
use Rattle.s2_io.specs.Exits.{Follows, CommandAnswers}
use Rattle.s2_inputs.specs.Inputs.{rows_in}
use Rattle.s2_judging.specs.Inputs.{values_by, then_values, inputs_by, AreInputsBy, IsOnly}
use Rattle.s2_io.proofs.CommandLemmas.{answers_moved, told}

both : (a : Result Rows Fault) (b : Result (List ℤ) Fault) (rows : Rows) (soft : List ℤ) → a ≡ Ok rows → b ≡ Ok soft → then_values a b ≡ Ok (rows, soft)
both a b rows soft p q = ap (λ x. then_values x b) p ∙ ap (then_values (Ok rows)) q

-- the files say these rows and soft values
pub are_inputs : (hard : Bool) (shape : Shape) (known_rows known_soft : Option (List ℕ)) (rows : Rows) (soft : List ℤ)
    → IfSome known_rows (λ xs. rows_in shape xs ≡ Ok rows) → IfSome known_soft (λ ys. values_by hard shape ys ≡ Ok soft) → AreInputsBy hard shape known_rows known_soft (Ok (rows, soft))
are_inputs hard shape None known_soft rows soft p q = tt
are_inputs hard shape (Some xs) None rows soft p q = tt
are_inputs hard shape (Some xs) (Some ys) rows soft p q = both (rows_in shape xs) (values_by hard shape ys) rows soft p q

-- refused rows
pub rows_refused : {W : Type 0} → (view : W → Rows × List ℤ) (hard : Bool) (shape : Shape) (known_rows known_soft : Option (List ℕ)) (f : Fault)
    → IfSome known_rows (λ xs. Follows {V = Rows} (λ r. r) (Err f) (rows_in shape xs)) → IfSome known_rows (λ xs. IfSome known_soft (λ ys. Follows view (Err f) (inputs_by hard shape xs ys)))
rows_refused view hard shape None known_soft f h = tt
rows_refused view hard shape (Some xs) None f h = tt
rows_refused view hard shape (Some xs) (Some ys) f h = told {V = Rows} (λ r. r) view f (rows_in shape xs) (inputs_by hard shape xs ys) (ap (λ r. then_values r (values_by hard shape ys))) h

-- refused soft values
pub values_refused : {V W : Type 0} → (read : Result V Fault) (values : V → List ℤ) (view : W → Rows × List ℤ) (hard : Bool) (shape : Shape) (known_rows known_soft : Option (List ℕ)) (rows : Rows) (f : Fault)
    → IfSome known_rows (λ xs. rows_in shape xs ≡ Ok rows) → IfSome known_soft (λ ys. Follows values (Err f) (values_by hard shape ys))
    → IfSome known_rows (λ xs. IfSome known_soft (λ ys. Follows view (Err f) (inputs_by hard shape xs ys)))
values_refused read values view hard shape None known_soft rows f p h = tt
values_refused read values view hard shape (Some xs) None rows f p h = tt
values_refused read values view hard shape (Some xs) (Some ys) rows f p h =
    told values view f (values_by hard shape ys) (inputs_by hard shape xs ys) (λ e. ap (λ r. then_values r (values_by hard shape ys)) p ∙ ap (then_values (Ok rows)) e) h

-- a command on files that are refused
pub refused_inputs : {W : Type 0} → (Says : Rows × List ℤ → Exit → List ℕ → Type 0) (view : W → Rows × List ℤ) (hard : Bool) (shape : Shape) (known_rows known_soft : Option (List ℕ)) (f : Fault)
    → IfSome known_rows (λ xs. IfSome known_soft (λ ys. Follows view (Err f) (inputs_by hard shape xs ys))) → CommandAnswers Says (AreInputsBy hard shape known_rows known_soft) (Err f)
refused_inputs Says view hard shape known_rows known_soft faults.Read h = tt
refused_inputs Says view hard shape known_rows known_soft faults.Write h = tt
refused_inputs Says view hard shape known_rows known_soft faults.NoMemory h = tt
refused_inputs Says view hard shape known_rows known_soft (faults.Open name) h = h
refused_inputs Says view hard shape known_rows known_soft (faults.UsedTwice name) h = h
refused_inputs Says view hard shape known_rows known_soft faults.TooLong h = h
refused_inputs Says view hard shape known_rows known_soft (faults.Rows words) h = h
refused_inputs Says view hard shape known_rows known_soft (faults.Refused words) h = h

-- a command on files that were read
pub on_inputs : (Says : Rows × List ℤ → Exit → List ℕ → Type 0) (hard : Bool) (shape : Shape) (known_rows known_soft : Option (List ℕ)) (rows : Rows) (soft : List ℤ) (made : Result Printed Fault)
    → AreInputsBy hard shape known_rows known_soft (Ok (rows, soft)) → CommandAnswers Says (IsOnly (rows, soft)) made → CommandAnswers Says (AreInputsBy hard shape known_rows known_soft) made
on_inputs Says hard shape known_rows known_soft rows soft made is h =
    answers_moved Says (IsOnly (rows, soft)) (AreInputsBy hard shape known_rows known_soft) made (λ said e. subst (AreInputsBy hard shape known_rows known_soft) (sym e) is) h
