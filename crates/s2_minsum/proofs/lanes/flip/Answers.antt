use Rattle.std.proofs.Common.{bit_xor}
use Rattle.s2_bits.proofs.Unsigned.{operator}
use Rattle.s2_minsum.proofs.lanes.flip.Goals as goal

pub returns : goal.returns
returns g c = operator g.row.W bit_xor c.args.a c.args.b c.fits-a.0 c.fits-b.0
