use Rattle.std.proofs.Common.{◌≡◌, ℕ, ◌<◌}
use Rattle.s2_bits.specs.Bits.{bit_at}
use Rattle.s2_matrix.proofs.parity.first_difference.Given as goal

abbrev pub invariant-loop-k : goal.invariant-loop-k
invariant-loop-k l = (k : ℕ) → k < l.k → bit_at l.a k ≡ bit_at l.b k
