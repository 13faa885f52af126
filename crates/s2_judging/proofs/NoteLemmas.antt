-- The note on soft values that look like hard decisions.
use Rattle.std.proofs.Common.{◌≡◌, ℕ, ◌+◌, ◌<◌, Bool, true, false, List, [], ◌∷◌, ◌++◌, ℤ, Option, Result, Ok, Err, inl, inr, refl, sym, ap, ◌∙◌, subst, arith}
use Rattle.std.specs.Prelude.{◌&&◌, ◌≢◌, ◌⊎◌}
use Rattle.std.specs.List.{list_all}
use Rattle.std.specs.Io.KnownBytes.{Appends}
use Rattle.std.proofs.lemmas.Bool.{cond-true, cond-false}
use Rattle.s2_rows.specs.Rows.{Rows}
use Rattle.s2_io.specs.declared.exit.Exit.{Exit}
use Rattle.s2_io.specs.declared.exit.Exit.TheVariants as exits
use Rattle.s2_io.specs.declared.fault.Fault.{Fault}
use Rattle.s2_io.specs.declared.fault.Fault.TheVariants as faults
use Rattle.s2_io.specs.Exits.{CommandCounts, Complains}
use Rattle.s2_io.specs.Faults.{fault_line}
use Rattle.s2_io.specs.Notes.{Remarks, NotesLost}
use Rattle.s2_io.specs.Screens.{Screen}
use Rattle.s2_judging.specs.declared.hard_note.Ran.{Ran}
use Rattle.s2_judging.specs.HardNotes.{is_bit, look_hard, LooksHard, is_noted, the_note, notes_of, exit_in, Concludes}

-- notes without a fault
remarked : (notes : List ℕ) (exit : Exit) (old new : Screen) → new.errors_failed ≡ old.errors_failed → Appends old.errors new.errors notes → (notes ≡ [] → ⊥) → Remarks notes (Ok exit) old new
remarked [] exit old new count noted some = absurd (some refl)
remarked (byte ∷ notes) exit old new count noted some = (count, noted)

-- notes that could not be written
unremarked : (notes : List ℕ) (f : Fault) (old new : Screen) → old.errors_failed < new.errors_failed → Remarks notes (Err f) old new
unremarked [] f old new up = λ e. absurd (omega (arith, up, e))
unremarked (byte ∷ notes) f old new up = λ e. absurd (omega (arith, up, e))

never : the_note ≡ [] → ⊥
never e = cc

module _ (hard quiet : Bool) (run : Ran) (ran : Result Ran Fault) (is : ran ≡ Ok run) (old new : Screen) where
  -- the run gets the note
  pub noted : (exit : Exit) → exit ≡ run.exit → is_noted hard quiet run ≡ true → new.errors_failed ≡ old.errors_failed → Appends old.errors new.errors the_note → Concludes hard quiet ran exit old new
  noted exit same gets count wrote =
      subst (λ r. Concludes hard quiet r exit old new) (sym is) (record {
        ended = Ok run.exit;
        exit_is = same;
        answered = inl refl;
        remarks = subst (λ notes. Remarks notes (Ok run.exit) old new) (sym (cond-true _ _ _ gets)) (remarked the_note run.exit old new count wrote never);
      })

  -- the note could not be written
  pub lost : (exit : Exit) → exit ≡ exits.Fault → is_noted hard quiet run ≡ true → old.errors_failed < new.errors_failed → Concludes hard quiet ran exit old new
  lost exit same gets up =
      subst (λ r. Concludes hard quiet r exit old new) (sym is) (record {
        ended = Err faults.Write;
        exit_is = same;
        answered = inr (λ e. never (sym (cond-true _ _ _ gets) ∙ e), refl, up);
        remarks = unremarked (notes_of hard quiet (Ok run)) faults.Write old new up;
      })

  -- it gets none
  pub silent : (exit : Exit) → exit ≡ run.exit → is_noted hard quiet run ≡ false → new ≡ old → Concludes hard quiet ran exit old new
  silent exit same no_note unchanged =
      subst (λ r. Concludes hard quiet r exit old new) (sym is) (record {
        ended = Ok run.exit;
        exit_is = same;
        answered = inl refl;
        remarks = subst (λ notes. Remarks notes (Ok run.exit) old new) (sym (cond-false _ _ _ no_note)) (ap (λ s. s.errors_failed) unchanged, ap (λ s. s.errors) unchanged);
      })

-- a fault is reported
pub complained : (hard quiet : Bool) (ran : Result Ran Fault) (fault : Fault) (exit : Exit) (old new : Screen) → ran ≡ Err fault → exit ≡ exits.Fault → Complains (Err fault) old new → Concludes hard quiet ran exit old new
complained hard quiet ran fault exit old new is same told =
    subst (λ r. Concludes hard quiet r exit old new) (sym is) (record { ended = Err fault; exit_is = same; answered = inl refl; remarks = told })

-- one frame looks hard if its values do
pub one_frame : (rows : Rows) (soft : List ℤ) (Is : Result (Rows × List ℤ) Fault → Type 0) (ran : Ran) → Is (Ok (rows, soft)) → ran.looks_hard ≡ list_all is_bit soft → LooksHard Is ran
one_frame rows soft Is ran is looks = ((rows, soft), is, looks ∙ sym (and_true (list_all is_bit soft)))
  where
    and_true : (b : Bool) → (b && true) ≡ b
    and_true true = refl
    and_true false = refl

-- counts after a part that read nothing
pub counts_after : (ended : Result Exit Fault) (reads reads_after writes writes_after : ℕ) → reads_after ≡ reads → ended ≢ Err faults.Read → CommandCounts ended 0 0 writes writes_after → CommandCounts ended reads reads_after writes writes_after
counts_after ended reads reads_after writes writes_after same other h = record {
  only = record { no_read = λ e. same; write_reported = h.only.write_reported; no_write = h.only.no_write };
  read = λ e. absurd (other e);
}

-- notes after a report, before which the errors were the same
remarks_from : (notes : List ℕ) (ended : Result Exit Fault) (old mid new : Screen) → mid.errors ≡ old.errors → mid.errors_failed ≡ old.errors_failed → Remarks notes ended mid new → Remarks notes ended old new
remarks_from [] (Ok exit) old mid new same count h = (h.0 ∙ count, h.1 ∙ same)
remarks_from [] (Err f) old mid new same count h = λ e. subst (λ errors. Appends errors new.errors (fault_line f)) same (h (e ∙ sym count))
remarks_from (byte ∷ notes) (Ok exit) old mid new same count h = (h.0 ∙ count, subst (λ errors. Appends errors new.errors (byte ∷ notes)) same h.1)
remarks_from (byte ∷ notes) (Err f) old mid new same count h = λ e. subst (λ errors. Appends errors new.errors ((byte ∷ notes) ++ fault_line f)) same (h (e ∙ sym count))

-- a run that lost its note did so, or it ended in the same way
answered_from : (hard quiet : Bool) (ran : Result Ran Fault) (ended : Result Exit Fault) (old mid new : Screen) → mid.errors_failed ≡ old.errors_failed
    → (ended ≡ exit_in ran) ⊎ NotesLost (notes_of hard quiet ran) ended mid new → (ended ≡ exit_in ran) ⊎ NotesLost (notes_of hard quiet ran) ended old new
answered_from hard quiet ran ended old mid new count (inl is) = inl is
answered_from hard quiet ran ended old mid new count (inr (some, is, up)) = inr (some, is, subst (λ n. n < new.errors_failed) count up)

pub concludes_from : (hard quiet : Bool) (ran : Result Ran Fault) (exit : Exit) (old mid new : Screen) → mid.errors ≡ old.errors → mid.errors_failed ≡ old.errors_failed → Concludes hard quiet ran exit mid new → Concludes hard quiet ran exit old new
concludes_from hard quiet ran exit old mid new same count h = record {
  ended = h.ended;
  exit_is = h.exit_is;
  answered = answered_from hard quiet ran h.ended old mid new count h.answered;
  remarks = remarks_from (notes_of hard quiet ran) h.ended old mid new same count h.remarks;
}
