use Rattle.std.proofs.Common.{◌≡◌, ℕ, ◌<◌, length, slice_index_or}
use Rattle.s2_bits.specs.Bits.{bit_at}
use Rattle.s2_compare.specs.Devices.{digit}
use Rattle.s2_compare.proofs.spelling.digits_into.Given as goal

abbrev pub invariant-digits : goal.invariant-digits
invariant-digits l = record {
  size : length l.word ≡ length l.digits;
  each : (k : ℕ) → k < l.i → slice_index_or l.digits k 0 ≡ digit (bit_at l.word k);
}
