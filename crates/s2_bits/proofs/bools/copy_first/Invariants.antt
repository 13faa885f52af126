use Rattle.std.proofs.Common.{false}
use Rattle.s2_bits.specs.Bits.{Rewritten, bit_at}
use Rattle.s2_bits.proofs.bools.copy_first.Given as goal

abbrev pub invariant-loop-i : goal.invariant-loop-i
invariant-loop-i l = Rewritten false l.i (bit_at l.from) l.initial.to l.to
