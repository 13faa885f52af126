use Rattle.std.proofs.Common.{◌≡◌, ℕ, ◌<◌, length, get_or}
use Rattle.s2_minsum.specs.Rows.{cell, changed}
use Rattle.s2_settle.proofs.layer.scatter_add_all.Given as goal

abbrev pub invariant-loop-e : goal.invariant-loop-e
invariant-loop-e l = record {
  long : length l.rests ≡ length l.initial.rests;
  are : (p : ℕ) → p < length l.initial.rests → get_or l.rests p 0 ≡ changed l.n l.entries l.initial.rests (cell l.changes l.n) l.e p;
}
