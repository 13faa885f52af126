use Rattle.s2_settle.proofs.RuleLaws.{start_law}
use Rattle.s2_settle.proofs.laws.start.Goals as goal

pub returns : goal.returns
returns c = start_law
