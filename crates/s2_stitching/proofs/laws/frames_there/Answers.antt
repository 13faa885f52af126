use Rattle.s2_stitching.proofs.FramesThere.{frame_there}
use Rattle.s2_stitching.proofs.laws.frames_there.Goals as goal

pub returns : goal.returns
returns c = frame_there
