-- What a reader finds in a line of a report.
use Rattle.std.proofs.Common.{◌≡◌, ℕ, Bool, true, false, List, [], ◌∷◌, ◌++◌, Option, Some, None, refl, sym, ap, ◌∙◌, decimal}
use Rattle.std.specs.Bool.{if◌then◌else◌}
use Rattle.std.proofs.lemmas.List.{append_cancel_right}
use Rattle.std.proofs.lemmas.Option.{none-some, same_Some}
use Rattle.s2_check.specs.declared.verdict.Verdict.{Verdict}
use Rattle.s2_report.specs.Entries.{entry_in, entry_of, entry_with, frame_with, number_in, words_of}
use Rattle.s2_report.specs.ReportLines.{frame_line, step_line}
use Rattle.s2_report.specs.declared.entry.Entry.{Entry}
use Rattle.s2_report.specs.declared.entry.Entry.TheVariants as entries
use Rattle.s2_report.specs.declared.entry.Frame.{Frame}
use Rattle.s2_report.specs.declared.report.Report.{Report}
use Rattle.s2_report.specs.declared.report.Step.TheVariants as steps
use Rattle.s2_report.specs.declared.totals.Totals.{Totals}
use Rattle.s2_report.proofs.ReadBack.{rest, spelt, split, verdict_back, words}

-- a line that is read is not too long
kept : (short : Bool) (o : Option Entry) (entry : Entry) → (if short then o else None) ≡ Some entry → o ≡ Some entry
kept true o entry e = e
kept false o entry e = absurd (none-some entry e)

words_said : (text : List ℕ) (entry : Entry) → entry_in text ≡ Some entry → entry_of (words_of text) ≡ Some entry
words_said text entry e = kept _ (entry_of (words_of text)) entry e

-- a frame with this verdict
abbrev Says : Verdict → Entry → Type 0
Says verdict entry = (frame : Frame) × (entry ≡ entries.Frame frame) × (frame.verdict ≡ verdict)

frame_said : (number at : Option ℕ) (verdict : Verdict) (entry : Entry) → entry_with (frame_with number at (Some verdict)) ≡ Some entry → Says verdict entry
frame_said (Some number) (Some at) verdict entry e = (record { number = number; at = at; verdict = verdict }, sym (same_Some _ entry e), refl)
frame_said (Some number) None verdict entry e = absurd (none-some entry e)
frame_said None at verdict entry e = absurd (none-some entry e)

module _ (r : Report) where
  frame_text : (text : List ℕ) → frame_line r ≡ text ++ 10 ∷ [] → text ≡ words r (rest r)
  unfolding frame_line
  frame_text text e = append_cancel_right text _ (10 ∷ []) (sym e) ∙ spelt r

  frame_words : (text : List ℕ) → text ≡ words r (rest r) → entry_of (words_of text) ≡ entry_with (frame_with (number_in (decimal r.number)) (number_in (decimal r.at)) (Some r.verdict))
  frame_words text is =
      ap (λ l. entry_of (words_of l)) is ∙ ap entry_of (split r (rest r))
      ∙ ap (λ v. entry_with (frame_with (number_in (decimal r.number)) (number_in (decimal r.at)) v)) (verdict_back r.verdict)

-- what a reader finds in the line of a frame: a frame with its verdict
pub verdict_said : (r : Report) (totals : Totals) (text : List ℕ) (entry : Entry) → step_line (steps.Frame r) totals ≡ text ++ 10 ∷ [] → entry_in text ≡ Some entry → (frame : Frame) × (entry ≡ entries.Frame frame) × (frame.verdict ≡ r.verdict)
verdict_said r totals text entry line said =
    frame_said (number_in (decimal r.number)) (number_in (decimal r.at)) r.verdict entry (sym (frame_words r text (frame_text r text line)) ∙ words_said text entry said)
