use Rattle.std.proofs.Common.{◌*◌, get_or}
use Rattle.s2_bits.specs.Lanes16.{plus16}
use Rattle.s2_bits.specs.Bits.{Rewritten}
use Rattle.s2_settle.proofs.kernels.sum_into.Given as goal

abbrev pub invariant-loop-block : goal.invariant-loop-block
invariant-loop-block l = Rewritten 0 (16 * l.block) (λ k. plus16 (get_or l.fn.to k 0) (get_or l.from k 0)) l.fn.to l.to
