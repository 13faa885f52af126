-- Notes after a report.
use Rattle.s2_commands.proofs.Names.{◌≡◌, ℕ, ◌<◌, List, [], ◌∷◌, ◌++◌, Ok, Err, Result, inl, inr, refl, sym, subst, ◌∙◌, arith, Appends, Exit, Fault, Screen, Remarks, NotesLost, fault_line, Bool, Mode, NoteArguments, Received, Sent, Answered, Finishes, FinishesRun, Concludes, refusal_fault, refusal_note, fault_note, if◌then◌else◌}

-- if two lists together are empty, each is (the first part shows `grind` which lists are meant)
pub both_empty : (xs ys : List ℕ) → xs ++ ys ≡ [] → (xs ++ ys ≡ []) × (xs ≡ []) × (ys ≡ [])
both_empty [] ys e = (e, refl, e)
both_empty (x ∷ xs) ys e = absurd cc

-- notes without a fault
pub remarked : (notes : List ℕ) (exit : Exit) (old new : Screen) → new.errors_failed ≡ old.errors_failed → Appends old.errors new.errors notes → (notes ≡ [] → new.errors ≡ old.errors)
    → Remarks notes (Ok exit) old new
remarked [] exit old new count noted none = (count, none refl)
remarked (byte ∷ notes) exit old new count noted none = (count, noted)

-- notes that could not be written
pub unremarked : (notes : List ℕ) (f : Fault) (old new : Screen) → old.errors_failed < new.errors_failed → Remarks notes (Err f) old new
unremarked [] f old new up = λ e. absurd (omega (arith, up, e))
unremarked (byte ∷ notes) f old new up = λ e. absurd (omega (arith, up, e))

-- notes after a report, before which the errors were the same
pub remarks_from : (notes : List ℕ) (ended : Result Exit Fault) (old mid new : Screen) → mid.errors ≡ old.errors → mid.errors_failed ≡ old.errors_failed
    → Remarks notes ended mid new → Remarks notes ended old new
remarks_from [] (Ok exit) old mid new same count h = (h.0 ∙ count, h.1 ∙ same)
remarks_from [] (Err f) old mid new same count h = λ e. subst (λ errors. Appends errors new.errors (fault_line f)) same (h (e ∙ sym count))
remarks_from (byte ∷ notes) (Ok exit) old mid new same count h = (h.0 ∙ count, subst (λ errors. Appends errors new.errors (byte ∷ notes)) same h.1)
remarks_from (byte ∷ notes) (Err f) old mid new same count h =
    λ e. subst (λ errors. Appends errors new.errors ((byte ∷ notes) ++ fault_line f)) same (h (e ∙ sym count))

-- its notes are lost in the same way
lost_from : (notes : List ℕ) (ended : Result Exit Fault) (old mid new : Screen) → mid.errors_failed ≡ old.errors_failed → NotesLost notes ended mid new → NotesLost notes ended old new
lost_from notes ended old mid new count (some, is, up) = (some, is, subst (λ n. n < new.errors_failed) count up)

-- and it ends with the same notes
answered_from : (words : NoteArguments) (m : Mode) (reception : Result Received Fault) (ended : Result Exit Fault) (notes : List ℕ) (old mid new : Screen) → mid.errors_failed ≡ old.errors_failed
    → Answered words m reception ended notes mid new → Answered words m reception ended notes old new
answered_from words m (Ok r) ended notes old mid new count (are, inl is) = (are, inl is)
answered_from words m (Ok r) ended notes old mid new count (are, inr lost) = (are, inr (lost_from notes ended old mid new count lost))
answered_from words m (Err f) ended notes old mid new count h = h

-- so a command that received finishes
pub finishes_from : (words : NoteArguments) (m : Mode) (reception : Result Received Fault) (exit : Exit) (old mid new : Screen) → mid.errors ≡ old.errors → mid.errors_failed ≡ old.errors_failed
    → Finishes words m reception exit mid new → Finishes words m reception exit old new
finishes_from words m reception exit old mid new same count h =
    record {
      ended = h.ended;
      notes = h.notes;
      exit_is = h.exit_is;
      answered = answered_from words m reception h.ended h.notes old mid new count h.answered;
      remarks = remarks_from h.notes h.ended old mid new same count h.remarks;
    }

-- so a command that heard this does
pub finishes_run_from : (words : NoteArguments) (m : Mode) (ended : Result (Sent Received) Fault) (exit : Exit) (old mid new : Screen) → mid.errors ≡ old.errors → mid.errors_failed ≡ old.errors_failed
    → FinishesRun words m ended exit mid new → FinishesRun words m ended exit old new
finishes_run_from words m (Ok (Ok received)) exit old mid new same count h = finishes_from words m (Ok received) exit old mid new same count h
finishes_run_from words m (Ok (Err refusal)) exit old mid new same count h =
    (h.0, remarks_from (if words.quiet then [] else refusal_note refusal) (Err (refusal_fault refusal)) old mid new same count h.1)
finishes_run_from words m (Err f) exit old mid new same count h = finishes_from words m (Err f) exit old mid new same count h

-- and so a command that sent
pub concludes_from : (quiet : Bool) (m : Mode) (ended : Result (Sent Exit) Fault) (exit : Exit) (old mid new : Screen) → mid.errors ≡ old.errors → mid.errors_failed ≡ old.errors_failed
    → Concludes quiet m ended exit mid new → Concludes quiet m ended exit old new
concludes_from quiet m (Ok (Ok made)) exit old mid new same count h = (h.0, remarks_from [] (Ok made) old mid new same count h.1)
concludes_from quiet m (Ok (Err refusal)) exit old mid new same count h =
    (h.0, remarks_from (if quiet then [] else refusal_note refusal) (Err (refusal_fault refusal)) old mid new same count h.1)
concludes_from quiet m (Err f) exit old mid new same count h = (h.0, remarks_from (if quiet then [] else fault_note m f) (Err f) old mid new same count h.1)
