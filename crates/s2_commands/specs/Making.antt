-- What `rows` prints (own).
use Rattle.std.specs.Prelude.{◌≡◌, ℕ, List, Result, Ok, Err, if◌then◌else◌}
use Rattle.s2_mode.specs.Shape.{Shape}
use Rattle.s2_rows.specs.FaultTexts.{make_fault_text}
use Rattle.s2_rows.specs.declared.make.MakeFault.TheVariants as making
use Rattle.s2_rows.specs.MadeRows.{is_weight, made_rows}
use Rattle.s2_rows.specs.RowTexts.{rows_text}
use Rattle.s2_io.specs.declared.exit.Exit.{Exit}
use Rattle.s2_io.specs.declared.exit.Exit.TheVariants as exits
use Rattle.s2_io.specs.declared.fault.Fault.{Fault}
use Rattle.s2_io.specs.declared.fault.Fault.TheVariants as faults
use Rattle.s2_io.specs.Exits.{CommandExits}
use Rattle.s2_io.specs.Screens.{Screen}

-- the rows that a shape, a weight and a seed determine
abbrev pub rows_made : Shape → ℕ → ℕ → Result (List (List ℕ)) Fault
rows_made shape weight seed = if is_weight shape weight then Ok (made_rows shape weight seed) else Err (faults.Refused (make_fault_text making.BadWeight))

-- the result is the rows that a shape, a weight and a seed determine
abbrev pub AreMadeRows : Shape → ℕ → ℕ → Result (List (List ℕ)) Fault → Type 0
AreMadeRows shape weight seed said = rows_made shape weight seed ≡ said

-- `rows` prints their row file
abbrev pub IsRowFile : List (List ℕ) → Exit → List ℕ → Type 0
IsRowFile rows exit text = (exit ≡ exits.Fine) × (text ≡ rows_text rows)

-- `rows` has ended with this exit
abbrev pub RowsExits : Shape → ℕ → ℕ → Screen → Screen → Exit → Type 0
RowsExits shape weight seed old new exit = CommandExits IsRowFile (AreMadeRows shape weight seed) 0 0 old new exit
