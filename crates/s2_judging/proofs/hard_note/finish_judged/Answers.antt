use Rattle.std.proofs.Common.{rules, refl, sym, arith}
use Rattle.s2_judging.proofs.NoteLemmas.{noted, lost, silent, complained}
use Rattle.s2_judging.proofs.hard_note.finish_judged.Goals as goal

pub returns-in-Ok-write_hard_note-clause-concludes : goal.returns-in-Ok-write_hard_note-clause-concludes
returns-in-Ok-write_hard_note-clause-concludes g c =
    rw (sym c.console.view_is) (noted c.args.hard c.args.quiet c.in-Ok.ran c.args.ran c.in-Ok.is _ _ _ refl (search rules) c.in-Ok-write_hard_note.ensures.cause c.in-Ok-write_hard_note.ensures.line)

pub returns-in-Err-write_hard_note-clause-concludes : goal.returns-in-Err-write_hard_note-clause-concludes
returns-in-Err-write_hard_note-clause-concludes g c =
    rw (sym c.console.view_is)
    (lost c.args.hard c.args.quiet c.in-Ok.ran c.args.ran c.in-Ok.is _ c.report_fault.new.self _ c.report_fault.ensures.exit (search rules) (omega (arith, c.in-Err-write_hard_note.ensures.cause, c.report_fault.ensures.counted)))

pub returns-in-Ok-2-clause-concludes : goal.returns-in-Ok-2-clause-concludes
returns-in-Ok-2-clause-concludes g c = silent c.args.hard c.args.quiet c.in-Ok-2.ran c.args.ran c.in-Ok-2.is _ _ _ refl (search rules) refl

pub returns-in-Err-clause-concludes : goal.returns-in-Err-clause-concludes
returns-in-Err-clause-concludes g c =
    complained c.args.hard c.args.quiet c.args.ran c.in-Err.fault _ _ _ c.in-Err.is c.report_fault-in-Err.ensures.exit c.report_fault-in-Err.ensures.told
