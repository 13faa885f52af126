use Rattle.std.proofs.Common.{◌+◌, ◌==◌, take}
use Rattle.std.specs.List.{list_any}
use Rattle.s2_matrix.specs.Edges.{Gains}
use Rattle.s2_matrix.proofs.layers.join_shift.Given as goal

abbrev pub invariant-loop-address : goal.invariant-loop-address
invariant-loop-address l = Gains l.q l.initial.layers.items l.initial.places.items l.layers.items l.places.items (λ r. list_any (λ x. x == l.first + r) (take l.address-index l.row)) l.place l.address-index
