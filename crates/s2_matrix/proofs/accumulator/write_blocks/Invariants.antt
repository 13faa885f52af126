use Rattle.std.proofs.Common.{◌≡◌, ℕ, ◌+◌, ◌*◌, ◌<◌, length}
use Rattle.s2_bits.specs.Bits.{bit_at}
use Rattle.s2_matrix.specs.Transpose.{accumulated}
use Rattle.s2_matrix.proofs.accumulator.write_blocks.Given as goal

abbrev pub invariant-loop-block : goal.invariant-loop-block
invariant-loop-block l = record {
  long : length l.parities ≡ length l.initial.parities;
  done : (lane r : ℕ) → lane < 8 * l.block → lane < l.group → r < l.q → bit_at l.parities (lane * l.q + r) ≡ accumulated l.group l.q l.planes (lane * l.q + r);
}
