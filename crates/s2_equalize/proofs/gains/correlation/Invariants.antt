use Rattle.std.proofs.Common.{◌≡◌, ◌*◌}
use Rattle.s2_equalize.specs.Bounds.{correlation_bound}
use Rattle.s2_equalize.specs.Complex.{IsWithin, sum_from}
use Rattle.s2_equalize.specs.Gains.{correlation_at}
use Rattle.s2_equalize.proofs.gains.correlation.Given as goal

abbrev pub invariant-loop-k : goal.invariant-loop-k
invariant-loop-k l = record {
  is : l.sum ≡ sum_from (correlation_at l.received l.sent) l.at l.k;
  most : IsWithin (correlation_bound * l.k) l.sum;
}
