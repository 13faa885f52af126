use Rattle.std.proofs.Common.{◌↔◌, IsTrue, ℕ, ◌<◌, get_or, pos}
use Rattle.s2_matrix.specs.Code.{code_of}
use Rattle.s2_split.specs.Kept.{served, AreLow, AreKept, HaveOneSign, NoneIsNegative}
use Rattle.s2_split.proofs.greedy.serve_between.Given as goal

abbrev pub invariant-loop-bit : goal.invariant-loop-bit
invariant-loop-bit l = record {
  low : AreLow l.rests;
  kept : AreKept (code_of l.matrix) l.soft l.word 1 (served (code_of l.matrix) l.soft l.word l.bit) l.rests l.moves;
  before : (k : ℕ) → k < l.from → HaveOneSign (get_or l.initial.rests k (pos 0)) (get_or l.rests k (pos 0));
  test : IsTrue l.none ↔ NoneIsNegative l.from l.bit l.rests;
}
