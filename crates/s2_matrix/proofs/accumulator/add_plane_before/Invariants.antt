use Rattle.std.proofs.Common.{◌+◌, ◌-◌}
use Rattle.s2_bits.specs.Bits.{xor, bit_at}
use Rattle.s2_matrix.proofs.Lanes.{Filled}
use Rattle.s2_matrix.proofs.accumulator.add_plane_before.Given as goal

abbrev pub invariant-loop-c : goal.invariant-loop-c
invariant-loop-c l = Filled l.at l.c (λ c. xor (bit_at l.initial.planes (l.at + c)) (bit_at l.initial.planes (l.at - l.group + c))) l.initial.planes l.planes
