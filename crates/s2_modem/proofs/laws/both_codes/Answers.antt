use Rattle.s2_modem.proofs.CleanFrames.{both_codes_law}
use Rattle.s2_modem.proofs.laws.both_codes.Goals as goal

pub returns : goal.returns
returns c = both_codes_law c.args.mode c.k.ensures.valid c.k.ensures.sizes
