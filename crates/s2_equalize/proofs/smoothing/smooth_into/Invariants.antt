use Rattle.std.proofs.Common.{◌≡◌, ℕ, ◌<◌}
use Rattle.s2_equalize.specs.Bounds.{mean_bound}
use Rattle.s2_equalize.specs.Complex.{IsWithin, complex_at}
use Rattle.s2_equalize.specs.Gains.{mean_gain}
use Rattle.s2_equalize.proofs.smoothing.smooth_into.Given as goal

abbrev pub invariant-loop-k : goal.invariant-loop-k
invariant-loop-k l = record {
  done : (j : ℕ) → j < l.k → complex_at l.smoothed j ≡ mean_gain l.gains l.turn j;
  most : (j : ℕ) → j < l.k → IsWithin mean_bound (complex_at l.smoothed j);
}
