use Rattle.s2_modem.proofs.FirstFrames.{first_frames_law}
use Rattle.s2_modem.proofs.laws.first_frames.Goals as goal

pub returns : goal.returns
returns c = first_frames_law c.args.mode c.k.ensures.valid c.k.ensures.sizes
