use Rattle.std.proofs.Common.{◌≡◌, ℕ, ◌<◌, length, get_or}
use Rattle.s2_minsum.specs.Rows.{changed, cell}
use Rattle.s2_minsum.proofs.layer.scatter_add_all.Given as goal

abbrev pub invariant-loop-e : goal.invariant-loop-e
invariant-loop-e l = record {
  long : length l.posteriors ≡ length l.initial.posteriors;
  are : (p : ℕ) → p < length l.initial.posteriors → get_or l.posteriors p 0 ≡ changed l.n l.entries l.initial.posteriors (cell l.changes l.n) l.e p;
}
