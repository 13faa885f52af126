use Rattle.std.proofs.Common.{ap, sym}
use Rattle.s2_table.proofs.TellLemmas.{remarks}
use Rattle.s2_table.proofs.wanted.report_noted.Goals as goal

pub returns-clause-reported : goal.returns-clause-reported
returns-clause-reported g c =
    let mid = g.E.CountedWrite.contents c.note_fault.new.out in
    let mid_failed = g.E.Counted.count c.note_fault.new.out in
    rw (sym c.console.view_is) (remarks _ c.args.fault _ c.report_fault.new.self mid mid_failed
    c.note_fault.ensures.bytes (λ e. ap (λ w. g.E.CountedWrite.contents w) (c.note_fault.ensures.none e)) (λ e. ap (λ w. g.E.Counted.count w) (c.note_fault.ensures.none e))
    c.note_fault.ensures.count.0 c.report_fault.ensures.counted c.report_fault.ensures.told)
