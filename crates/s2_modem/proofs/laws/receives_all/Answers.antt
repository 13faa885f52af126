use Rattle.s2_modem.proofs.CleanFrames.{receives_all_law}
use Rattle.s2_modem.proofs.laws.receives_all.Goals as goal

pub returns : goal.returns
returns c = receives_all_law c.args.mode c.k.ensures.valid c.k.ensures.sizes
