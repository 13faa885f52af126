use Rattle.std.proofs.Common.{◌*◌, get_or}
use Rattle.s2_bits.specs.Lanes16.{minus16}
use Rattle.s2_bits.specs.Bits.{Rewritten}
use Rattle.s2_minsum.proofs.kernels.subtract.Given as goal

abbrev pub invariant-loop-block : goal.invariant-loop-block
invariant-loop-block l = Rewritten 0 (16 * l.block) (λ k. minus16 (get_or l.a k 0) (get_or l.b k 0)) l.fn.to l.to
