use Rattle.std.proofs.Common.{◌≡◌, ℕ, ◌*◌, ◌<◌, length}
use Rattle.s2_bits.specs.Bits.{bit_at}
use Rattle.s2_matrix.specs.Transpose.{carry_at, accumulated}
use Rattle.s2_matrix.proofs.accumulator.write_lanes.Given as goal

abbrev pub invariant-loop-lane : goal.invariant-loop-lane
invariant-loop-lane l = record {
  long : length l.parities ≡ length l.initial.parities;
  carry : l.carry ≡ carry_at l.group l.q l.planes l.lane;
  done : (k : ℕ) → k < l.lane * l.q → bit_at l.parities k ≡ accumulated l.group l.q l.planes k;
}
