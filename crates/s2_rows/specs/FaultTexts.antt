-- The texts of this crate's faults (own).
use Rattle.std.specs.Prelude.{ℕ, List, ◌++◌, codes, decimal}
use Rattle.s2_rows.specs.declared.row_file.RowFault.{RowFault}
use Rattle.s2_rows.specs.declared.row_file.RowFault.TheVariants as row_faults
use Rattle.s2_rows.specs.declared.values.ValueFault.{ValueFault}
use Rattle.s2_rows.specs.declared.values.ValueFault.TheVariants as value_faults
use Rattle.s2_rows.specs.declared.make.MakeFault.{MakeFault}
use Rattle.s2_rows.specs.declared.make.MakeFault.TheVariants as make_faults

-- the text of each fault of a row file
abbrev pub row_fault_text : RowFault → List ℕ
row_fault_text (row_faults.NotNumber line) = codes "not a number in line " ++ decimal line
row_fault_text row_faults.TooFewRows = codes "too few rows"
row_fault_text row_faults.TooManyRows = codes "too many rows"
row_fault_text (row_faults.AddressTooLarge line) = codes "address too large in line " ++ decimal line
row_fault_text (row_faults.Repeated line) = codes "repeated address in line " ++ decimal line
row_fault_text (row_faults.RowTooLong line) = codes "row too long in line " ++ decimal line
row_fault_text row_faults.NoMemory = codes "no memory"

-- the text of each fault of a value file
abbrev pub value_fault_text : ValueFault → List ℕ
value_fault_text (value_faults.NotNumber line) = codes "not a number in line " ++ decimal line
value_fault_text (value_faults.OutOfRange line) = codes "out of range in line " ++ decimal line
value_fault_text value_faults.TooFew = codes "too few"
value_fault_text value_faults.TooMany = codes "too many"
value_fault_text value_faults.NoMemory = codes "no memory"

-- the text of each fault of made rows
abbrev pub make_fault_text : MakeFault → List ℕ
make_fault_text make_faults.BadWeight = codes "no such weight"
make_fault_text make_faults.NoMemory = codes "no memory"
