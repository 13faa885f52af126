use Rattle.std.proofs.Common.{◌≡◌}
use Rattle.s2_matrix.specs.Edges.{owners}
use Rattle.s2_matrix.proofs.lists.owners_of.Given as goal

abbrev pub invariant-loop-check : goal.invariant-loop-check
invariant-loop-check l = l.owners.items ≡ owners l.by_check l.check
