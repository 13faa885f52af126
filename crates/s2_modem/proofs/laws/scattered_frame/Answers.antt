use Rattle.s2_modem.proofs.CleanFrames.{scattered_law}
use Rattle.s2_modem.proofs.laws.scattered_frame.Goals as goal

pub returns : goal.returns
returns c = scattered_law c.args.mode c.k.ensures.valid c.k.ensures.sizes
