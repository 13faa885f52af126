use Rattle.std.proofs.Common.{◌≡◌, ◌≤◌, ◌++◌, ◌∙◌, length, arith, sym, ap, subst, append_assoc, codes, decimal}
use Rattle.s2_report.specs.Entries.{IsReadAs}
use Rattle.s2_report.specs.declared.entry.Entry.TheVariants as entries
use Rattle.s2_report.specs.Entries.{frame_of_report}
use Rattle.s2_check.specs.Verdicts.{verdict_word}
use Rattle.s2_report.specs.ReportLines.{figures_words, frame_line, outcome_words, turn_words}
use Rattle.s2_report.proofs.ReadBack.{frame_back}
use Rattle.s2_report.proofs.Rooms.{pushed}
use Rattle.s2_report.proofs.lines.frame_line.Goals as goal

pub returns-clause-read_back : goal.returns-clause-read_back
unfolding frame_line
returns-clause-read_back c = λ small.
    let r = c.args.report in
    let number = c.push_count.ensures.bytes ∙ ap (λ l. l ++ (codes "frame " ++ decimal r.number)) c.new-line.ensures in
    let at = c.push_count-2.ensures.bytes ∙ sym (append_assoc c.push_count.new.line (codes " at ") (decimal r.at)) ∙ ap (λ l. l ++ codes " at " ++ decimal r.at) number in
    let verdict = c.push-2.ensures ∙ ap (λ l. c.push.new.self ++ l) c.word.ensures.is ∙ ap (λ l. l ++ verdict_word r.verdict) (c.push.ensures ∙ ap (λ l. l ++ codes " ") at) in
    let outcome = c.push_outcome.ensures.bytes ∙ ap (λ l. l ++ outcome_words r.outcome) (c.push-3.ensures ∙ ap (λ l. l ++ codes " ") verdict) in
    let figures = c.push_figures.ensures.bytes ∙ ap (λ l. l ++ figures_words r.figures) outcome in
    let turn = c.push_turn.ensures.bytes ∙ ap (λ l. l ++ turn_words r.turn) figures in
    let is : c.push-4.new.self ≡ frame_line r = c.push-4.ensures ∙ ap (λ l. l ++ codes "\n") turn in
    let short : length c.push-4.new.self ≤ 640 =
    omega (
      arith,
      pushed c.push_turn.new.line c.push-4.new.self (codes "\n") c.push-4.ensures,
      c.push_turn.ensures.room,
      c.push_figures.ensures.room,
      c.push_outcome.ensures.room,
      pushed c.push-2.new.self c.push-3.new.self (codes " ") c.push-3.ensures,
      pushed c.push.new.self c.push-2.new.self c.word.result.now c.push-2.ensures,
      c.word.ensures.short,
      pushed c.push_count-2.new.line c.push.new.self (codes " ") c.push.ensures,
      c.push_count-2.ensures.room,
      c.push_count.ensures.room,
      ap length c.new-line.ensures,
    ) in
    subst (λ l. IsReadAs l (entries.Frame (frame_of_report r))) (sym is)
    (frame_back r c.push_count.ensures.line c.push_count-2.ensures.line c.push_outcome.ensures.line c.push_figures.ensures.line c.push_turn.ensures.line (subst (λ l. length l ≤ 640) is short) small)
