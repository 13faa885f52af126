use Rattle.std.proofs.Common.{◌≡◌, ℕ, ◌≤◌, ◌<◌, false}
use Rattle.s2_bits.specs.Bits.{bit_of_bytes}
use Rattle.s2_certfile.proofs.lists.is_padded.Given as goal

abbrev pub invariant-loop-i : goal.invariant-loop-i
invariant-loop-i l = (k : ℕ) → l.n ≤ k → k < l.i → bit_of_bytes l.bytes k ≡ false
