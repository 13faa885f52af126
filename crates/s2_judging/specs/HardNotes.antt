-- The note on soft values that look like hard decisions (own).
use Rattle.std.specs.Prelude.{◌≡◌, ◌⊎◌, ℕ, ℤ, pos, int_lt, Bool, true, false, not, ◌&&◌, List, [], ◌∷◌, codes, Result, Ok, Err, if◌then◌else◌}
use Rattle.std.specs.List.{list_all}
use Rattle.s2_rows.specs.Rows.{Rows}
use Rattle.s2_io.specs.declared.exit.Exit.{Exit}
use Rattle.s2_io.specs.declared.fault.Fault.{Fault}
use Rattle.s2_io.specs.Exits.{exit_of}
use Rattle.s2_io.specs.Notes.{Remarks, NotesLost}
use Rattle.s2_io.specs.Screens.{Screen}
use Rattle.s2_judging.specs.declared.hard_note.Ran.{Ran}

-- 0 or 1
abbrev pub is_bit : ℤ → Bool
is_bit v = not (int_lt v (pos 0)) && not (int_lt (pos 1) v)

-- there are frames, and all their values are 0 or 1
abbrev pub look_hard : List (List ℤ) → Bool
look_hard [] = false
look_hard (frame ∷ frames) = list_all (list_all is_bit) (frame ∷ frames)

-- a run on an input: whether its values look hard
abbrev pub LooksHard : (Result (Rows × List ℤ) Fault → Type 0) → Ran → Type 0
LooksHard IsInput ran = (input : Rows × List ℤ) × IsInput (Ok input) × (ran.looks_hard ≡ look_hard (input.1 ∷ []))

-- the exit of a run, or its fault
abbrev pub exit_in : Result Ran Fault → Result Exit Fault
exit_in (Ok ran) = Ok ran.exit
exit_in (Err f) = Err f

-- a run gets the note if its soft values look hard, unless notes are suppressed
abbrev pub is_noted : (hard quiet : Bool) → Ran → Bool
is_noted hard quiet ran = ran.looks_hard && not hard && not quiet

-- the note
abbrev pub the_note : List ℕ
the_note = codes "s2: note: these look like hard decisions: use --hard\n"

-- the notes of a run
abbrev pub notes_of : (hard quiet : Bool) → Result Ran Fault → List ℕ
notes_of hard quiet (Ok ran) = if is_noted hard quiet ran then the_note else []
notes_of hard quiet (Err f) = []

-- The exit of a run, and what it wrote to its errors: its note, or the line of its fault. If the note's writer failed,
-- that is the fault
pub record Concludes (hard quiet : Bool) (ran : Result Ran Fault) (exit : Exit) (old new : Screen) : Type 0 where
  pub ended : Result Exit Fault
  pub exit_is : exit ≡ exit_of ended
  pub answered : (ended ≡ exit_in ran) ⊎ NotesLost (notes_of hard quiet ran) ended old new
  pub remarks : Remarks (notes_of hard quiet ran) ended old new
