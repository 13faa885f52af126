-- The note on refused rows (own).
use Rattle.std.specs.Prelude.{◌≡◌, ℕ, Bool, if◌then◌else◌, Option, List, [], ◌++◌, codes, decimal, Result, Ok, Err}
use Rattle.s2_mode.specs.Mode.{Mode, shape_in}
use Rattle.s2_mode.specs.Shape.{Shape, check_count}
use Rattle.s2_names.specs.Names.{mode_words}
use Rattle.s2_io.specs.declared.exit.Exit.{Exit}
use Rattle.s2_io.specs.declared.fault.Fault.{Fault}
use Rattle.s2_io.specs.declared.fault.Fault.TheVariants as faults
use Rattle.s2_io.specs.Exits.{exit_of, CommandRuns, CommandCounts}
use Rattle.s2_io.specs.Notes.{Remarks}
use Rattle.s2_io.specs.Screens.{Screen}
use Rattle.s2_table.specs.Tables.{AreRowsIn, SaysStandard}

-- the number of rows, and the limit of their addresses
unfoldable pub wanted_end : ℕ → ℕ → List ℕ
wanted_end rows checks = (codes " needs " ++ decimal rows) ++ (codes " rows of addresses below " ++ decimal checks) ++ codes "\n"

-- the note with the rows that a mode needs
abbrev pub wanted_note : Mode → Shape → List ℕ
wanted_note m shape = codes "s2: note: " ++ (mode_words m ++ wanted_end shape.groups (check_count shape))

-- the note of a fault: for a fault of rows, the rows that the mode needs
abbrev pub fault_note : Mode → Fault → List ℕ
fault_note m (faults.Rows text) = wanted_note m (shape_in m)
fault_note m f = []

-- the notes of a command that ended so
abbrev pub notes_on : Bool → Mode → Result Exit Fault → List ℕ
notes_on quiet m (Ok exit) = []
notes_on quiet m (Err f) = if quiet then [] else fault_note m f

-- `table` has ended. The result for the rows in its file is printed. Only failed calls were counted. The note and the
-- line of a fault are on the errors
abbrev pub TableExits : Mode → Bool → Option (List ℕ) → ℕ → ℕ → Screen → Screen → Exit → Type 0
TableExits m quiet rows reads reads_after old new exit =
    (ended : Result Exit Fault) × (exit ≡ exit_of ended) × CommandRuns (SaysStandard m) (AreRowsIn (shape_in m) rows) ended old.output new.output
    × CommandCounts ended reads reads_after old.output_failed new.output_failed × Remarks (notes_on quiet m ended) ended old new
