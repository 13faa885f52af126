use Rattle.std.proofs.Common.{◌≡◌, length, take, pos}
use Rattle.s2_matrix.specs.Code.{code_of}
use Rattle.s2_split.specs.Kept.{AreCounted}
use Rattle.s2_split.proofs.Lesser.{IsWrittenAt}
use Rattle.s2_split.proofs.Anew.{anew_at}
use Rattle.s2_split.proofs.negatives.move_counted.Given as goal

abbrev pub invariant-loop-at : goal.invariant-loop-at
invariant-loop-at l = record {
  long : length l.rests ≡ length l.initial.rests;
  written : IsWrittenAt (pos 0) (anew_at l.initial.rests l.members l.held l.own) (take l.at l.members) l.initial.rests l.rests;
  counted : AreCounted (code_of l.matrix) l.rests l.negatives;
}
