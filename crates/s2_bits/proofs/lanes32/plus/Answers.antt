use Rattle.s2_bits.specs.Lanes32.{plus32}
use Rattle.s2_bits.proofs.Unsigned.{operator}
use Rattle.s2_bits.proofs.lanes32.plus.Goals as goal

pub returns : goal.returns
returns c = operator 4 plus32 c.args.a c.args.b c.fits-a.0 c.fits-b.0
