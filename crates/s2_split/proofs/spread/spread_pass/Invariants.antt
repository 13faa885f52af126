use Rattle.std.proofs.Common.{◌≡◌, ◌≤◌, ◌==◌, not, ℤ, Bool, IsTrue, List, fold, length}
use Rattle.s2_matrix.specs.Total.{upto}
use Rattle.s2_matrix.specs.Code.{code_of}
use Rattle.s2_split.specs.Greedy.{Moved}
use Rattle.s2_split.specs.Spreading.{spread_check, spread_scale}
use Rattle.s2_split.specs.Kept.{AreKept, AreCounted}
use Rattle.s2_split.proofs.spread.spread_pass.Given as goal

abbrev pub invariant-loop-check : goal.invariant-loop-check
invariant-loop-check g l = record {
  kept : (soft : List ℤ) (word : List Bool) (m : Moved) → AreKept (code_of l.matrix) soft word spread_scale m l.initial.rests l.initial.moves → AreKept (code_of l.matrix) soft word spread_scale (fold (spread_check (code_of l.matrix) soft word) m (upto l.check)) l.rests l.moves;
  few : l.changed ≤ l.check;
  same : l.changed ≡ 0 → (l.rests ≡ l.initial.rests) × (l.moves ≡ l.initial.moves);
  counts_long : length l.negatives ≡ length l.initial.negatives;
  counted : IsTrue (not (g.row.BY_COUNTS == 0)) → AreCounted (code_of l.matrix) l.rests l.negatives;
}
