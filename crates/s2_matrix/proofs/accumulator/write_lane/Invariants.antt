use Rattle.std.proofs.Common.{◌+◌, ◌*◌}
use Rattle.s2_bits.specs.Bits.{xor, bit_at}
use Rattle.s2_matrix.proofs.Lanes.{Filled}
use Rattle.s2_matrix.proofs.accumulator.write_lane.Given as goal

abbrev pub invariant-loop-r : goal.invariant-loop-r
invariant-loop-r l = Filled (l.lane * l.q) l.r (λ r. xor l.carry (bit_at l.planes (r * l.group + l.lane))) l.initial.parities l.parities
