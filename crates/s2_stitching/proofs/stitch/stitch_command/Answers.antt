use Rattle.s2_commands.proofs.NoteLemmas.{finishes_from}
use Rattle.s2_stitching.proofs.stitch.stitch_command.Goals as goal

pub returns-clause-run : goal.returns-clause-run
returns-clause-run g c =
    let out = c.finish_reception.ensures.output in
    let errors = c.stitch_files-reception.ensures.errors in (
      c.stitch_files-reception.result,
      rw (out.0, out.1) c.stitch_files-reception.ensures.run,
      finishes_from c.args.words.now.notes c.args.setup.mode _ _ c.args.console.now c.stitch_files-reception.new.console c.finish_reception.new.console errors.0 errors.1 c.finish_reception.ensures.finishes,
    )
