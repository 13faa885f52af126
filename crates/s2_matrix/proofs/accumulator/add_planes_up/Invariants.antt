use Rattle.s2_matrix.proofs.Lanes.{SummedUp}
use Rattle.s2_matrix.proofs.accumulator.add_planes_up.Given as goal

abbrev pub invariant-loop-r : goal.invariant-loop-r
invariant-loop-r l = SummedUp l.group l.r l.initial.planes l.planes
