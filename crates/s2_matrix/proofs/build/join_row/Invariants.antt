use Rattle.std.proofs.Common.{◌+◌, ◌%◌, ◌==◌, take}
use Rattle.std.specs.List.{list_any}
use Rattle.s2_matrix.specs.Edges.{Gains}
use Rattle.s2_matrix.proofs.build.join_row.Given as goal

abbrev pub invariant-loop-address : goal.invariant-loop-address
invariant-loop-address l = Gains l.count l.initial.checks.items l.initial.bits.items l.checks.items l.bits.items (λ j. list_any (λ x. (x + l.turn) % l.count == j) (take l.address-index l.row)) l.bit l.address-index
