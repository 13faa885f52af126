use Rattle.s2_minsum.proofs.Decisions.{decision_law}
use Rattle.s2_minsum.proofs.laws.decision.Goals as goal

pub returns : goal.returns
returns c = decision_law
