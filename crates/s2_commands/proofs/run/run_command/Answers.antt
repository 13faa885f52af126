use Rattle.s2_commands.proofs.NoteLemmas.{finishes_run_from}
use Rattle.s2_commands.proofs.run.run_command.Goals as goal

pub returns-clause-run : goal.returns-clause-run
returns-clause-run g c =
    let out = c.finish_run.ensures.output in
    let errors = c.loop_files-ended.ensures.errors in (
      c.loop_files-ended.result,
      rw (out.0, out.1) c.loop_files-ended.ensures.run,
      finishes_run_from c.args.words.now.notes c.args.setup.mode c.loop_files-ended.result _ c.args.console.now c.loop_files-ended.new.console c.finish_run.new.console errors.0 errors.1 c.finish_run.ensures.finishes,
    )
