use Rattle.std.proofs.Common.{ap, ◌∙◌}
use Rattle.s2_mode.specs.Shape.{Shape}
use Rattle.s2_matrix.proofs.Layering.{places_more}
use Rattle.s2_matrix.proofs.layers.join_places.Goals as goal

pub loop-place-preserved : goal.loop-place-preserved
loop-place-preserved c =
    let e = c.shape-shape.ensures.is in
    let group = c.group-group.ensures.is ∙ ap (λ (s : Shape). s.group) e in
    let q = c.q-q.ensures.is ∙ ap (λ (s : Shape). s.q) e in
    places_more c.args.rows.now c.loop-place.place c.group-group.result c.q-q.result c.row-row.result.now c.loop-place.layers.items c.loop-place.places.items c.join_shift.new.layers.items c.join_shift.new.places.items group q c.row-row.ensures.are c.row-row.ensures.short c.loop-place.invariant c.in_ok-join_shift.ensures
