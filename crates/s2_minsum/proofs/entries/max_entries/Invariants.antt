use Rattle.std.proofs.Common.{ℕ, ◌<◌, ◌≤◌}
use Rattle.s2_minsum.specs.Layout.{entry_count}
use Rattle.s2_minsum.proofs.entries.max_entries.Given as goal

abbrev pub invariant-loop-r : goal.invariant-loop-r
invariant-loop-r l = record {
  most : (r : ℕ) → r < l.r → entry_count l.matrix r ≤ l.most;
  reached : (most : ℕ) → ((r : ℕ) → r < l.r → entry_count l.matrix r ≤ most) → l.most ≤ most;
  few : l.most ≤ 64800;
}
