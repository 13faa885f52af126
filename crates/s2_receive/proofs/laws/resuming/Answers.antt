use Rattle.s2_receive.proofs.LostFrames.{resume_law}
use Rattle.s2_receive.proofs.laws.resuming.Goals as goal

pub returns : goal.returns
returns c = resume_law
