use Rattle.std.proofs.Common.{◌≢◌, ℕ, ℤ, Bool, List, get_or, take, fold, pos}
use Rattle.s2_matrix.specs.Code.{code_of, checks_of}
use Rattle.s2_split.specs.Greedy.{Moved, move_to}
use Rattle.s2_split.specs.Kept.{AreLow, AreKept, HaveOneSign}
use Rattle.s2_split.proofs.greedy.serve.Given as goal

abbrev pub invariant-loop-at : goal.invariant-loop-at
invariant-loop-at l = record {
  low : AreLow l.rests;
  kept : (soft : List ℤ) (word : List Bool) (m : Moved) → AreKept (code_of l.matrix) soft word 1 m l.initial.rests l.initial.moves → AreKept (code_of l.matrix) soft word 1 (fold (move_to (code_of l.matrix) soft word l.bit) m (take l.at (checks_of (code_of l.matrix) l.bit))) l.rests l.moves;
  others : (k : ℕ) → k ≢ l.bit → HaveOneSign (get_or l.initial.rests k (pos 0)) (get_or l.rests k (pos 0));
}
