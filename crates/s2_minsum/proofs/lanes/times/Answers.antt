use Rattle.std.proofs.Common.{◌*◌, ◌%◌}
use Rattle.s2_bits.proofs.Unsigned.{operator}
use Rattle.s2_minsum.proofs.lanes.times.Goals as goal

pub returns : goal.returns
returns g c = operator g.row.W (λ a b. a * b % 65536) c.args.a c.args.b c.fits-a.0 c.fits-b.0
