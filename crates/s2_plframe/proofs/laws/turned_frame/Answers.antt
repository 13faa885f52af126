use Rattle.s2_plframe.proofs.TurnLaws.{turned_frame_is}
use Rattle.s2_plframe.proofs.laws.turned_frame.Goals as goal

pub returns : goal.returns
returns c = turned_frame_is
