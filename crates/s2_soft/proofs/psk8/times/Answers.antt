use Rattle.s2_soft.specs.Lanes.{times32}
use Rattle.s2_bits.proofs.Unsigned.{operator}
use Rattle.s2_soft.proofs.psk8.times.Goals as goal

pub returns : goal.returns
returns c = operator 4 times32 c.args.a c.args.b c.fits-a.0 c.fits-b.0
