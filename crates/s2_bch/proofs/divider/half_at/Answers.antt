use Rattle.std.proofs.Common.{arith}
use Rattle.s2_bch.proofs.MessageFacts.{number_of-joined}
use Rattle.s2_bch.proofs.divider.half_at.Goals as goal

pub returns : goal.returns
returns c = omega (arith, number_of-joined 16 c.args.bits.now c.args.at (omega arith), c.pair_at.ensures, c.pair_at-2.ensures)
