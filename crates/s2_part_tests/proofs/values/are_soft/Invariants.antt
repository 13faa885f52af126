use Rattle.std.proofs.Common.{ℕ, ◌<◌, ℤ, get_or}
use Rattle.s2_check.specs.Views.{IsSoft}
use Rattle.s2_part_tests.proofs.values.are_soft.Given as goal

abbrev pub invariant-loop-value : goal.invariant-loop-value
invariant-loop-value l = (k : ℕ) (d : ℤ) → k < l.value-index → IsSoft (get_or l.values k d)
