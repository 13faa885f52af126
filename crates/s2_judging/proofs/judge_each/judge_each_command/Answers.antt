use Rattle.std.proofs.Common.{ℕ, ◌+◌, List, Option, sym, refl, subst}
use Rattle.s2_io.specs.Exits.{CommandCounts}
use Rattle.s2_judging.specs.HardNotes.{exit_in}
use Rattle.s2_judging.specs.JudgingEach.{JudgesEach}
use Rattle.s2_judging.proofs.NoteLemmas.{concludes_from}
use Rattle.s2_judging.proofs.judge_each.judge_each_command.Goals as goal

pub returns-clause-run : goal.returns-clause-run
returns-clause-run g c =
    let ran = c.print_judgements-ran.result in
    let files = c.args.files.now in
    let after = c.print_judgements-ran.new.files in
    let old = g.O.CountedWrite.contents c.console.inside.output in
    rw (sym c.console.view_is) (
      ran,
      subst (λ (o : Option (List ℕ)). JudgesEach c.args.hard c.args.tuning c.args.shape files after ran old o) (sym c.finish_judged.ensures.output.0) c.print_judgements-ran.ensures.run,
      subst (λ (n : ℕ). CommandCounts (exit_in ran) (files.rows_failed + files.soft_failed) (after.rows_failed + after.soft_failed) (files.certificate.failed + g.O.Counted.count c.console.inside.output) (after.certificate.failed + n))
          (sym c.finish_judged.ensures.output.1) c.print_judgements-ran.ensures.causes,
      concludes_from c.args.hard c.args.quiet ran c.finish_judged.result _ _ c.finish_judged.new.console refl refl c.finish_judged.ensures.concludes,
    )
