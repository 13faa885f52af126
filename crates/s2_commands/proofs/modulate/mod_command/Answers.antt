use Rattle.s2_commands.proofs.NoteLemmas.{concludes_from}
use Rattle.s2_commands.proofs.modulate.mod_command.Goals as goal

pub returns-clause-run : goal.returns-clause-run
returns-clause-run g c =
    let out = c.finish_sending.ensures.output in
    let errors = c.send_files-ended.ensures.errors in (
      c.send_files-ended.result,
      rw (out.0, out.1) c.send_files-ended.ensures.run,
      concludes_from c.args.words.now.quiet c.args.setup.mode c.send_files-ended.result _ c.args.console.now c.send_files-ended.new.console c.finish_sending.new.console errors.0 errors.1 c.finish_sending.ensures.concludes,
    )
