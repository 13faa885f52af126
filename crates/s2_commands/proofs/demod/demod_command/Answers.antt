use Rattle.s2_commands.proofs.NoteLemmas.{finishes_from}
use Rattle.s2_commands.proofs.demod.demod_command.Goals as goal

pub returns-clause-run : goal.returns-clause-run
returns-clause-run g c =
    let out = c.finish_reception.ensures.output in
    let errors = c.receive_files-reception.ensures.errors in (
      c.receive_files-reception.result,
      rw (out.0, out.1) c.receive_files-reception.ensures.run,
      finishes_from c.args.words.now.notes c.args.setup.mode _ _ c.args.console.now c.receive_files-reception.new.console c.finish_reception.new.console errors.0 errors.1 c.finish_reception.ensures.finishes,
    )
