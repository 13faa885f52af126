use Rattle.std.proofs.Common.{ℕ, ◌+◌, ◌<◌, ◌↔◌, IsTrue, get_or}
use Rattle.s2_check.specs.Taken.{zero_rest}
use Rattle.s2_check.proofs.row_rests.are_above.Given as goal

abbrev pub invariant-loop-k : goal.invariant-loop-k
invariant-loop-k l =
    IsTrue l.above ↔ ((j : ℕ) → j < l.k → get_or l.takes j 0 + zero_rest < get_or l.ups j 0)
