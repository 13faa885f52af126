use Rattle.std.proofs.Common.{arith}
use Rattle.s2_bch.proofs.MessageFacts.{number_of-joined}
use Rattle.s2_bch.proofs.divider.block_at.Goals as goal

pub returns : goal.returns
returns c = omega (arith, number_of-joined 32 c.args.bits.now c.args.at (omega arith), c.half_at.ensures, c.half_at-2.ensures)
