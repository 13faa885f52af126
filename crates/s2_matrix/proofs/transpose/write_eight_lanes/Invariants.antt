use Rattle.std.proofs.Common.{◌≡◌, ℕ, ◌+◌, ◌*◌, ◌<◌, length}
use Rattle.s2_bits.specs.Bits.{bit_at}
use Rattle.s2_matrix.specs.Transpose.{accumulated}
use Rattle.s2_matrix.proofs.transpose.write_eight_lanes.Given as goal

abbrev pub invariant-loop-block : goal.invariant-loop-block
invariant-loop-block l = record {
  long : length l.parities ≡ length l.initial.parities;
  done : (m r : ℕ) → m < 8 → r < 8 * l.block → r < l.q → bit_at l.parities (l.lane * l.q + m * l.q + r) ≡ accumulated l.group l.q l.planes (l.lane * l.q + m * l.q + r);
  kept : (k : ℕ) → bit_at l.initial.parities k ≡ accumulated l.group l.q l.planes k → bit_at l.parities k ≡ accumulated l.group l.q l.planes k;
}
