use Rattle.s2_commands.proofs.Names.{refl, ends_of, streams_by}
use Rattle.s2_commands.proofs.SentLemmas.{causes_refused}
use Rattle.s2_commands.proofs.modulate.send_to.Goals as goal

pub returns-in-Err-clause-causes : goal.returns-in-Err-clause-causes
returns-in-Err-clause-causes g c =
    let ends = streams_by g.S.CountedRead.remaining g.S.Counted.count g.W.CountedWrite.contents g.W.Counted.count g.O.CountedWrite.contents g.O.Counted.count in
    rw c.refused_by.ensures (causes_refused g.K.SendSink.count (ends_of (ends c.args.packets.now c.args.symbols.now c.args.out.now) c.args.sinks.now) (ends_of (ends c.run_with.new.input c.run_with.new.output c.args.out.now) c.run_with.new.sink)
    c.in-Err.refusal refl c.in-Err.ensures.no_read c.in-Err.ensures.write c.in-Err.ensures.no_write)
