use Rattle.s2_plframe.proofs.TurnFacts.{side_is}
use Rattle.s2_plframe.proofs.laws.rotations.Goals as goal

pub returns : goal.returns
returns c = side_is
