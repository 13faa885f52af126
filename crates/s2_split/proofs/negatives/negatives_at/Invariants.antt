use Rattle.std.proofs.Common.{◌≡◌, get_or, take, count_by, pos, int_lt}
use Rattle.s2_split.proofs.negatives.negatives_at.Given as goal

abbrev pub invariant-loop-place : goal.invariant-loop-place
invariant-loop-place l =
    l.count ≡ count_by (λ i. int_lt (get_or l.rests i (pos 0)) (pos 0)) (take l.place-index l.places)
