use Rattle.std.proofs.Common.{◌≡◌, ℕ, ◌<◌, ◌≤◌}
use Rattle.s2_equalize.specs.Bounds.{factor_bound}
use Rattle.s2_equalize.specs.Complex.{IsWithin, complex_at}
use Rattle.s2_equalize.specs.Equalizer.{reciprocal}
use Rattle.s2_equalize.proofs.factors.invert_each.Given as goal

abbrev pub invariant-loop-k : goal.invariant-loop-k
invariant-loop-k l = record {
  done : (j : ℕ) → j < l.k → complex_at l.gains j ≡ reciprocal l.fineness (complex_at l.initial.gains j);
  rest : (j : ℕ) → l.k ≤ j → complex_at l.gains j ≡ complex_at l.initial.gains j;
  most : (j : ℕ) → j < l.k → IsWithin factor_bound (complex_at l.gains j);
}
