use Rattle.std.proofs.Common.{◌≡◌, ◌%◌, ◌==◌, true, take}
use Rattle.std.specs.List.{list_all}
use Rattle.s2_matrix.specs.Code.{code_of, ones_in}
use Rattle.s2_judge.proofs.early_repair.are_odd.Given as goal

abbrev pub invariant-loop-check : goal.invariant-loop-check
invariant-loop-check l =
    list_all (λ j. ones_in (code_of l.matrix) l.word j % 2 == 1) (take l.check-index l.checks) ≡ true
