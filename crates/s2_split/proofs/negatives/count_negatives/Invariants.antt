use Rattle.std.proofs.Common.{◌≡◌, ℕ, ◌<◌, length, get_or}
use Rattle.s2_matrix.specs.Code.{code_of}
use Rattle.s2_split.specs.Kept.{negatives_in}
use Rattle.s2_split.proofs.negatives.count_negatives.Given as goal

abbrev pub invariant-loop-check : goal.invariant-loop-check
invariant-loop-check l = record {
  long : length l.negatives ≡ length l.initial.negatives;
  each : (j : ℕ) → j < l.check → get_or l.negatives j 0 ≡ negatives_in (code_of l.matrix) l.rests j;
}
