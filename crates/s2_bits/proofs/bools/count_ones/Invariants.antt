use Rattle.std.proofs.Common.{◌≡◌, ◌≤◌, take, count_by}
use Rattle.s2_bits.proofs.bools.count_ones.Given as goal

abbrev pub invariant-loop-bit : goal.invariant-loop-bit
invariant-loop-bit l = (l.ones ≤ l.bit-index) × (l.ones ≡ count_by (λ b. b) (take l.bit-index l.bits))
