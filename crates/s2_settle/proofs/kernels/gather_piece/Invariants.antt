use Rattle.std.proofs.Common.{◌*◌, get_or}
use Rattle.s2_settle.specs.Rests.{given}
use Rattle.s2_bits.specs.Bits.{Rewritten}
use Rattle.s2_settle.proofs.kernels.gather_piece.Given as goal

abbrev pub invariant-loop-block : goal.invariant-loop-block
invariant-loop-block l = Rewritten 0 (16 * l.block) (λ k. given (get_or l.rests k 0) (get_or l.targets k 0) (get_or l.amounts k 0) l.e) l.fn.to l.to
