use Rattle.s2_matrix.proofs.Odds.{SummedTo}
use Rattle.s2_matrix.proofs.parity.add_neighbours.Given as goal

abbrev pub invariant-loop-k : goal.invariant-loop-k
invariant-loop-k l = SummedTo l.k l.bits l.sums
