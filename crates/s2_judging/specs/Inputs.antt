-- The input of a judge, or the fault that is reported (own).
use Rattle.std.specs.Prelude.{◌≡◌, ℕ, ℤ, Bool, nat_le, Option, IfSome, List, ◌++◌, codes, length, Result, Ok, Err, if◌then◌else◌}
use Rattle.s2_mode.specs.Shape.{Shape, code_bits}
use Rattle.s2_rows.specs.Rows.{Rows}
use Rattle.s2_rows.specs.Values as values
use Rattle.s2_rows.specs.FaultTexts.{value_fault_text}
use Rattle.s2_rows.specs.declared.values.ValueFault.{ValueFault}
use Rattle.s2_judging.specs.Hard.{text_by}
use Rattle.s2_io.specs.declared.fault.Fault.{Fault}
use Rattle.s2_io.specs.declared.fault.Fault.TheVariants as faults
use Rattle.s2_inputs.specs.Inputs.{max_bytes, rows_in}

-- the values of a text, or its fault after `values: `
abbrev pub values_said : Result (List ℤ) ValueFault → Result (List ℤ) Fault
values_said (Ok vs) = Ok vs
values_said (Err e) = Err (faults.Refused (codes "values: " ++ value_fault_text e))

-- the values of a value file, at most 16,777,216 bytes
abbrev pub values_in : Shape → List ℕ → Result (List ℤ) Fault
values_in shape bytes = if nat_le (length bytes) max_bytes then values_said (values.values_of_text bytes (code_bits shape)) else Err faults.TooLong

-- the rows, then the values
abbrev pub then_values : Result Rows Fault → Result (List ℤ) Fault → Result (Rows × List ℤ) Fault
then_values (Err f) values = Err f
then_values (Ok rows) (Err f) = Err f
then_values (Ok rows) (Ok vs) = Ok (rows, vs)

-- the rows of a row file, then the values of a value file; else the first fault
abbrev pub inputs : Shape → List ℕ → List ℕ → Result (Rows × List ℤ) Fault
inputs shape rows soft = then_values (rows_in shape rows) (values_in shape soft)

-- the values of a file, which has decided bits or soft values, at most 16,777,216 bytes
abbrev pub values_by : (hard : Bool) → Shape → List ℕ → Result (List ℤ) Fault
values_by hard shape bytes = if nat_le (length bytes) max_bytes then values_said (text_by hard bytes (code_bits shape)) else Err faults.TooLong

-- the rows, then these values; else the first fault
abbrev pub inputs_by : (hard : Bool) → Shape → List ℕ → List ℕ → Result (Rows × List ℤ) Fault
inputs_by hard shape rows soft = then_values (rows_in shape rows) (values_by hard shape soft)

-- the result is what a row file and a file of decided bits or soft values say, if their bytes are known
abbrev pub AreInputsBy : (hard : Bool) → Shape → Option (List ℕ) → Option (List ℕ) → Result (Rows × List ℤ) Fault → Type 0
AreInputsBy hard shape rows soft said = IfSome rows (λ xs. IfSome soft (λ ys. inputs_by hard shape xs ys ≡ said))

-- the result is what a row file and a value file say, if their bytes are known
abbrev pub AreInputs : Shape → Option (List ℕ) → Option (List ℕ) → Result (Rows × List ℤ) Fault → Type 0
AreInputs shape rows soft said = IfSome rows (λ xs. IfSome soft (λ ys. inputs shape xs ys ≡ said))

-- the result is this input
abbrev pub IsOnly : {I : Type 0} → I → Result I Fault → Type 0
IsOnly input said = said ≡ Ok input
