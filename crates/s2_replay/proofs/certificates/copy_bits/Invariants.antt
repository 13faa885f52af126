use Rattle.std.proofs.Common.{◌≡◌, ℕ, ◌<◌, length}
use Rattle.s2_bits.specs.Bits.{bit_at}
use Rattle.s2_replay.proofs.certificates.copy_bits.Given as goal

abbrev pub invariant-places : goal.invariant-places
invariant-places l = record {
  size : length l.word ≡ length l.fn.word;
  each : (k : ℕ) → k < l.i → bit_at l.word k ≡ bit_at l.view.bits k;
}
