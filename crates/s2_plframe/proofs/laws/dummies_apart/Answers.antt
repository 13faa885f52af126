use Rattle.s2_plframe.proofs.HeaderFacts.{dummies_apart_is}
use Rattle.s2_plframe.proofs.laws.dummies_apart.Goals as goal

pub returns : goal.returns
returns c = dummies_apart_is
