use Rattle.std.proofs.Common.{ℕ, List, map, ap, ap₂, ◌∙◌}
use Rattle.s2_mode.specs.Shape.{Shape}
use Rattle.s2_matrix.specs.Total.{upto}
use Rattle.s2_matrix.specs.CountingSort.{with_key}
use Rattle.s2_matrix.specs.Layers.{layer_code}
use Rattle.s2_matrix.proofs.Flats.{members_given}
use Rattle.s2_matrix.proofs.layers.layers.Goals as goal

pub returns : goal.returns
returns c =
    let cs = c.join_places.new.layers.items in
    let bs = c.join_places.new.places.items in
    let q = c.q-q.ensures.is ∙ ap (λ (s : Shape). s.q) c.shape-shape.ensures.is in
    c.in_ok-by_layer.ensures.lists ∙ ap₂ (λ (x y : List ℕ). map (with_key x y) (upto c.q-q.result)) c.deref.ensures.value c.deref-2.ensures.value ∙ ap (λ (n : ℕ). map (with_key cs bs) (upto n)) q ∙ members_given (layer_code c.args.rows.now) cs bs c.in_ok-join_places.ensures
