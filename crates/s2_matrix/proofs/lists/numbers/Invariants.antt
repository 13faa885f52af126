use Rattle.std.proofs.Common.{◌≡◌}
use Rattle.s2_matrix.specs.Total.{upto}
use Rattle.s2_matrix.proofs.lists.numbers.Given as goal

abbrev pub invariant-loop-i : goal.invariant-loop-i
invariant-loop-i l = l.numbers.items ≡ upto l.i
