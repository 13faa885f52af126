use Rattle.std.proofs.Common.{◌≡◌, ◌<◌, ℕ, length}
use Rattle.s2_bits.specs.Bits.{bit_at, bit_of_bytes}
use Rattle.s2_bits.proofs.bits.Bits.from_bytes.Given as goal

abbrev pub invariant-loop-i : goal.invariant-loop-i
invariant-loop-i l = (length l.truths.items ≡ l.i) × ((k : ℕ) → k < l.i → bit_at l.truths.items k ≡ bit_of_bytes l.bytes k)
