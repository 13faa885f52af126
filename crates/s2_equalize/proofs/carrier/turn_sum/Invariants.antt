use Rattle.std.proofs.Common.{◌≡◌, ◌*◌}
use Rattle.s2_equalize.specs.Bounds.{turn_bound}
use Rattle.s2_equalize.specs.Complex.{IsWithin, sum_from}
use Rattle.s2_equalize.specs.Gains.{turn_at}
use Rattle.s2_equalize.proofs.carrier.turn_sum.Given as goal

abbrev pub invariant-loop-k : goal.invariant-loop-k
invariant-loop-k l = record {
  is : l.sum ≡ sum_from (turn_at l.gains) 0 l.k;
  most : IsWithin (turn_bound * l.k) l.sum;
}
