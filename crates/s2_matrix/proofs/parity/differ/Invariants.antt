use Rattle.std.proofs.Common.{◌≡◌, ℕ, ◌<◌, false}
use Rattle.s2_bits.specs.Bits.{bit_at}
use Rattle.s2_matrix.proofs.parity.differ.Given as goal

abbrev pub invariant-loop-k : goal.invariant-loop-k
invariant-loop-k l = l.apart ≡ false → (k : ℕ) → k < l.k → bit_at l.a k ≡ bit_at l.b k
