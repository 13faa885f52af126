use Rattle.std.proofs.Common.{ℕ, ◌<◌, ◌↔◌, IsTrue, get_or, pos, ◌≤ℤ◌}
use Rattle.s2_check.specs.Moves.{in_favour}
use Rattle.s2_check.proofs.listed_rests.all_favoured.Given as goal

abbrev pub invariant-loop-i : goal.invariant-loop-i
invariant-loop-i l =
    IsTrue l.strict ↔ ((k : ℕ) → k < l.i → pos 1 ≤ℤ in_favour l.word k (get_or l.rests k (pos 0)))
