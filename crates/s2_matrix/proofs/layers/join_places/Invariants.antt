use Rattle.s2_matrix.specs.Layers.{layer_code}
use Rattle.s2_matrix.specs.Edges.{AreEdges}
use Rattle.s2_matrix.proofs.layers.join_places.Given as goal

abbrev pub invariant-loop-place : goal.invariant-loop-place
invariant-loop-place l = AreEdges (layer_code l.rows) l.place l.layers.items l.places.items
