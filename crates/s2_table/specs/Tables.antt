-- What `table` prints about rows, and the note on rows that are not the standard's (own).
use Rattle.std.specs.Prelude.{◌≡◌, ℕ, ◌++◌, Bool, true, false, List, Option, Some, None, IfSome, Result, Ok, Err, codes, decimal}
use Rattle.std.specs.Io.KnownBytes.{Appends}
use Rattle.s2_mode.specs.Mode.{Mode}
use Rattle.s2_mode.specs.Shape.{Shape}
use Rattle.s2_rows.specs.Rows.{Rows}
use Rattle.s2_names.specs.Names.{mode_words}
use Rattle.s2_io.specs.declared.exit.Exit.{Exit}
use Rattle.s2_io.specs.declared.exit.Exit.TheVariants as exits
use Rattle.s2_io.specs.declared.fault.Fault.{Fault}
use Rattle.s2_inputs.specs.Inputs.{rows_in}
use Rattle.s2_table.specs.Rising.{HasSum}
use Rattle.s2_table.specs.RowSums.{standard_row_sums, FirstOther}
use Rattle.s2_table.specs.Sums.{standard_sum}

-- the result is what a row file says, if its bytes are known
abbrev pub AreRowsIn : Shape → Option (List ℕ) → Result Rows Fault → Type 0
AreRowsIn shape known said = IfSome known (λ text. rows_in shape text ≡ said)

-- `standard` or `other`, and after it the line of the first other row, with LF
abbrev pub answer_line : Bool → Option ℕ → List ℕ
answer_line true first = codes "standard\n"
answer_line false None = codes "other\n"
answer_line false (Some line) = (codes "other: line " ++ decimal line) ++ codes "\n"

-- exit 0 for the standard's rows, else 2
abbrev pub answer_exit : Bool → Exit
answer_exit true = exits.Fine
answer_exit false = exits.No

-- whether rows are the standard's for the code of a mode, else the first other row, and the exit of that
pub record SaysStandard (mode : Mode) (rows : Rows) (exit : Exit) (text : List ℕ) : Type 0 where
  pub answer : Bool
  pub has : HasSum rows (standard_sum mode) answer
  pub first : Option ℕ
  pub finds : FirstOther rows (standard_row_sums mode) first
  pub line : text ≡ answer_line answer first
  pub ends : exit ≡ answer_exit answer

-- the line of the note
abbrev pub note_line : Mode → List ℕ
note_line m = codes "s2: note: these rows are not the standard's for " ++ (mode_words m ++ codes "\n")

-- for the standard's rows there is no note
abbrev pub Notes : Mode → Bool → Option (List ℕ) → Option (List ℕ) → Type 0
Notes mode true old new = new ≡ old
Notes mode false old new = Appends old new (note_line mode)

-- for other rows, the note says that they are not the standard's
abbrev pub IsNoted : Mode → Rows → Option (List ℕ) → Option (List ℕ) → Type 0
IsNoted mode rows old new = (answer : Bool) × HasSum rows (standard_sum mode) answer × Notes mode answer old new

-- The note on the rows of a file. There is none if notes are suppressed, if the rows are refused, or if they are the
-- standard's. It can be lost only if its writer failed
abbrev pub NotesRows : Bool → Mode → ℕ → ℕ → Option (List ℕ) → Option (List ℕ) → Result Rows Fault → Type 0
NotesRows true mode before after old new said = (after ≡ before) × (new ≡ old)
NotesRows false mode before after old new (Ok rows) = after ≡ before → IsNoted mode rows old new
NotesRows false mode before after old new (Err f) = (after ≡ before) × (new ≡ old)
