use Rattle.std.proofs.Common.{Some}
use Rattle.s2_audit.proofs.TurnLemmas.{if_holds}
use Rattle.s2_audit.proofs.frame.FrameAuditor.find.Goals as goal

pub returns-clause-soft : goal.returns-clause-soft
returns-clause-soft g c = if_holds (Some c.in-Ok.found) c.self.inside.replayer c.find.new.self c.find.ensures.same c.in-Ok.ensures.soft
