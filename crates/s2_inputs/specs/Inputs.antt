-- The contents of a command's files, or the fault that is reported (own).
use Rattle.std.specs.Prelude.{ℕ, nat_le, List, ◌++◌, codes, length, Result, Ok, Err, if◌then◌else◌}
use Rattle.s2_mode.specs.Shape.{Shape}
use Rattle.s2_mode.specs.declared.reading.FileFault.{FileFault}
use Rattle.s2_mode.specs.declared.reading.FileFault.TheVariants as files
use Rattle.s2_rows.specs.Rows.{Rows, rows_value}
use Rattle.s2_rows.specs.RowFiles as row_files
use Rattle.s2_rows.specs.FaultTexts.{row_fault_text}
use Rattle.s2_rows.specs.declared.row_file.RowFault.{RowFault}
use Rattle.s2_io.specs.declared.fault.Fault.{Fault}
use Rattle.s2_io.specs.declared.fault.Fault.TheVariants as faults

-- the rows of a row file, or its fault after `rows: `
abbrev pub rows_said : Shape → Result (List (List ℕ)) RowFault → Result Rows Fault
rows_said shape (Ok rows) = Ok (rows_value shape rows)
rows_said shape (Err e) = Err (faults.Rows (codes "rows: " ++ row_fault_text e))

-- the maximum length in bytes of a file that is read into memory
abbrev pub max_bytes : ℕ
max_bytes = 16777216

-- the command's fault for a fault of a file
abbrev pub fault_of_file : FileFault → Fault
fault_of_file files.Read = faults.Read
fault_of_file files.TooLong = faults.TooLong
fault_of_file files.NoMemory = faults.NoMemory

-- the bytes of a file, at most 16,777,216
abbrev pub taken : List ℕ → Result (List ℕ) Fault
taken bytes = if nat_le (length bytes) max_bytes then Ok bytes else Err faults.TooLong

-- the rows of a row file, at most 16,777,216 bytes
abbrev pub rows_in : Shape → List ℕ → Result Rows Fault
rows_in shape bytes = if nat_le (length bytes) max_bytes then rows_said shape (row_files.rows_of_text bytes shape) else Err faults.TooLong
