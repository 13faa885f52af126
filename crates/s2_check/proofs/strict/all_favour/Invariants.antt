use Rattle.std.proofs.Common.{ℕ, ◌<◌, ◌↔◌, IsTrue, pos, ◌≤ℤ◌}
use Rattle.s2_check.specs.Cost.{value_at}
use Rattle.s2_check.specs.Moves.{in_favour}
use Rattle.s2_check.proofs.strict.all_favour.Given as goal

abbrev pub invariant-loop-i : goal.invariant-loop-i
invariant-loop-i l =
    IsTrue l.strict ↔ ((k : ℕ) → k < l.i → pos 1 ≤ℤ in_favour l.word k (value_at l.soft k))
