use Rattle.s2_commands.proofs.Names.{ap, sym}
use Rattle.s2_table.proofs.TellLemmas.{remarks}
use Rattle.s2_commands.proofs.refusals.report_refusal.Goals as goal

pub returns-clause-reported : goal.returns-clause-reported
returns-clause-reported g c =
    let mid = g.E.CountedWrite.contents c.note_refusal.new.out in
    let mid_failed = g.E.Counted.count c.note_refusal.new.out in
    rw (sym c.console.view_is, sym c.fault_of.ensures) (remarks _ c.fault_of.result _ c.report_fault.new.self mid mid_failed
    c.note_refusal.ensures.bytes (λ e. ap (λ w. g.E.CountedWrite.contents w) (c.note_refusal.ensures.none e)) (λ e. ap (λ w. g.E.Counted.count w) (c.note_refusal.ensures.none e))
    c.note_refusal.ensures.count.0 c.report_fault.ensures.counted c.report_fault.ensures.told)
