use Rattle.std.proofs.Common.{ℕ, ◌<◌, IsTrue, get_or, pos, ◌≤ℤ◌}
use Rattle.s2_split.proofs.spread.none_negative_at.Given as goal

abbrev pub invariant-loop-place : goal.invariant-loop-place
invariant-loop-place l =
    IsTrue l.none → (k : ℕ) → k < l.place-index → pos 0 ≤ℤ get_or l.rests (get_or l.places k 0) (pos 0)
