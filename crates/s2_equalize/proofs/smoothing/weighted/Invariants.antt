use Rattle.std.proofs.Common.{◌≡◌, ◌*◌, ◌-◌, ◌≤◌}
use Rattle.s2_equalize.specs.declared.complex.Complex.{Complex}
use Rattle.s2_equalize.specs.Bounds.{AreTurns, turned_bound}
use Rattle.s2_equalize.specs.Complex.{IsWithin, scaled, sum_from}
use Rattle.s2_equalize.specs.Gains.{turned, weight, weights}
use Rattle.s2_equalize.proofs.smoothing.weighted.Given as goal

abbrev pub invariant-loop-l : goal.invariant-loop-l
invariant-loop-l l = record {
  counted : l.all.weight ≡ weights l.at (l.l - l.at);
  summed : (turn : Complex) → AreTurns turn l.turns → l.all.sum ≡ sum_from (λ j. scaled (weight j) (turned l.gains turn l.k j)) l.at (l.l - l.at);
  most : IsWithin (turned_bound * l.all.weight) l.all.sum;
  least : l.l - l.at ≤ l.all.weight;
  few : l.all.weight ≤ 2 * (l.l - l.at);
}
