use Rattle.std.proofs.Common.{rules, arith, ◌∙◌, sym, ap, subst, refl, Ok, Err, codes, ◌++◌}
use Rattle.s2_rows.specs.FaultTexts.{value_fault_text}
use Rattle.s2_judging.specs.Bytewise.{said_by, AddsWord}
use Rattle.s2_judging.proofs.FrameLemmas.{ends_by, ends_refused}
use Rattle.s2_judging.proofs.frames.end_frame.Goals as goal

pub returns-in-Ok-clause-ends : goal.returns-in-Ok-clause-ends
returns-in-Ok-clause-ends c =
    let old = c.args.values.now.items in
    let new = c.add_word.new.values.items in
    rw c.is_whole.ensures (ends_by c.args.hard c.args.count c.args.position old new c.deref.result.now c.deref.ensures.value
    (subst (λ w. AddsWord (said_by c.args.hard c.args.position.line w) old new (Ok tt)) c.word.ensures c.in-Ok.ensures.added) (omega (arith, c.in-Ok.ensures.few, c.requires.most)))

pub returns-in-Err-clause-ends : goal.returns-in-Err-clause-ends
returns-in-Err-clause-ends c =
    rw c.value_fault.ensures (ends_refused c.args.hard c.args.count c.args.position c.args.values.now.items c.add_word.new.values.items (codes "values: " ++ value_fault_text c.in-Err.fault) c.in-Err.fault
    (omega (arith, c.requires.most)) (ap (said_by c.args.hard c.args.position.line) (sym c.word.ensures) ∙ c.in-Err.ensures.added) refl)
