use Rattle.std.proofs.Common.{◌≡◌, ℕ, ◌<◌, length}
use Rattle.s2_equalize.specs.Bounds.{gain_bound}
use Rattle.s2_equalize.specs.Complex.{IsWithin, complex_at}
use Rattle.s2_equalize.specs.Gains.{block_gain}
use Rattle.s2_equalize.proofs.gains.find_gains.Given as goal

abbrev pub invariant-loop-k : goal.invariant-loop-k
invariant-loop-k l = record {
  done : (j : ℕ) → j < l.k → complex_at l.gains j ≡ block_gain l.received l.sent j;
  most : (j : ℕ) → j < l.k → IsWithin gain_bound (complex_at l.gains j);
  long : length l.gains ≡ length l.fn.gains;
}
