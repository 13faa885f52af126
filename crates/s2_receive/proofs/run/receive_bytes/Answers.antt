use Rattle.s2_receive.proofs.Names.{Some, Err, ap, arith, bytes_by, rules_of}
use Rattle.s2_receive.proofs.RunLemmas.{breaks_in}
use Rattle.s2_receive.proofs.run.receive_bytes.Goals as goal

pub returns-in-Ok-clause-receives : goal.returns-in-Ok-clause-receives
returns-in-Ok-clause-receives g c =
    let (runs, totals, symbols) = c.in-Ok.ensures.runs in
    record { left = Some c.receive_all.new.reader.bytes.now; runs_out = rw (c.new-reader.ensures, c.requires.begun) at runs.runs_out; totals_are = totals }

pub returns-in-Err : goal.returns-in-Err
returns-in-Err g c =
    let ends = bytes_by g.P.CountedWrite.contents g.P.Counted.count g.W.CountedWrite.contents g.W.Counted.count in
    let broke = breaks_in (rules_of g.D.Decide.decide c.args.receiver.now) c.args.receiver.now.state c.receive_all.new.receiver.state c.args.bytes.now c.new-reader.result.bytes.now (Some c.args.bytes.now)
    (ends c.args.bytes.now c.args.packets.now c.args.report.now) (ends c.receive_all.new.reader.bytes.now c.receive_all.new.packets c.receive_all.new.report) c.in-Err._fault
    c.requires.begun c.new-reader.ensures c.requires.limit (λ x. absurd (omega (arith, x))) c.in-Err.ensures.runs in
    record { receives = broke.1; write = c.in-Err.ensures.counts.write_reported (ap (λ x. Err x) broke.0); no_write = tt }
