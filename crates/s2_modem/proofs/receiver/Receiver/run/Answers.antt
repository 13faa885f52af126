use Rattle.s2_modem.proofs.HeadlineLemmas.{run_headline}
use Rattle.s2_modem.proofs.receiver.Receiver.run.Goals as goal

pub returns-clause-headline : goal.returns-clause-headline
returns-clause-headline g c = run_headline _ _ _ c.receive_all.new.receiver.state _ _ c.receive_all.result c.self.view_is c.self.invariant.0 c.self.invariant.1 c.receive_all.ensures.runs
