use Rattle.std.proofs.Common.{◌≢◌, ◌↔◌, ℕ, ◌<◌, IsTrue, pos}
use Rattle.s2_check.specs.Cost.{value_at}
use Rattle.s2_check.proofs.hard.none_is_zero.Given as goal

abbrev pub invariant-loop-i : goal.invariant-loop-i
invariant-loop-i l =
    IsTrue l.none ↔ ((k : ℕ) → k < l.i → value_at l.soft k ≢ pos 0)
