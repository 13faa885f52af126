use Rattle.s2_bits.specs.Lanes16.{minus16}
use Rattle.s2_bits.proofs.Unsigned.{operator}
use Rattle.s2_bits.proofs.lanes16.minus.Goals as goal

pub returns : goal.returns
returns c = operator 8 minus16 c.args.a c.args.b c.fits-a.0 c.fits-b.0
