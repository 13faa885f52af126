use Rattle.std.proofs.Common.{◌≡◌, take, count_by}
use Rattle.s2_matrix.specs.Code.{code_of}
use Rattle.s2_judge.specs.EarlyRepair.{repaired_bit}
use Rattle.s2_judge.proofs.early_repair.stays_odd.Given as goal

abbrev pub invariant-loop-place : goal.invariant-loop-place
invariant-loop-place l = l.ones ≡ count_by (repaired_bit (code_of l.matrix) l.word) (take l.place-index l.places)
