use Rattle.std.proofs.Common.{◌≡◌, ℕ, ◌<◌, false, get_or, pos, int_lt}
use Rattle.s2_check.proofs.hard.hard_decision.Given as goal

abbrev pub invariant-loop-i : goal.invariant-loop-i
invariant-loop-i l = (k : ℕ) → k < l.i → get_or l.word k false ≡ int_lt (get_or l.soft k (pos 0)) (pos 0)
