use Rattle.s2_settle.proofs.SettledViews.{settled_lem}
use Rattle.s2_settle.proofs.laws.settled.Goals as goal

pub returns : goal.returns
returns c = settled_lem
