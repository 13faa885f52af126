use Rattle.s2_plframe.proofs.TurnLaws.{turned_dummy_is}
use Rattle.s2_plframe.proofs.laws.turned_dummy.Goals as goal

pub returns : goal.returns
returns c = turned_dummy_is
