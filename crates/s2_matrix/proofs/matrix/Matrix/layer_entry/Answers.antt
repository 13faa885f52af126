use Rattle.std.proofs.Common.{◌<◌, ◌/◌, ℕ, get_or, length, ap, subst, sym, ◌∙◌, arith}
use Rattle.std.proofs.lemmas.List.{length-map}
use Rattle.s2_mode.specs.Shape.{Shape}
use Rattle.s2_matrix.specs.Layers.{layer_places, entry_of}
use Rattle.s2_matrix.proofs.Joins.{div_below}
use Rattle.s2_matrix.proofs.Layering.{entry_at}
use Rattle.s2_matrix.proofs.matrix.Matrix.layer_entry.Goals as goal

pub bounds-places_of-at : goal.bounds-places_of-at
bounds-places_of-at c =
    let r = c.args.self.now in
    omega (arith, c.requires.at, ap length c.places_of.ensures.are, length-map (layer_places r c.args.layer) (entry_of r))

pub returns-clause-is : goal.returns-clause-is
returns-clause-is c =
    let group = c.group-group.ensures.is ∙ ap (λ (s : Shape). s.group) c.shape.ensures.is in
    entry_at c.args.self.now c.args.layer c.args.at c.group-group.result c.places_of.result.now _ c.places_of.ensures.are group c.requires.at

pub returns-clause-group_below : goal.returns-clause-group_below
returns-clause-group_below c =
    let r = c.args.self.now in
    let group = c.group-group.ensures.is ∙ ap (λ (s : Shape). s.group) c.shape.ensures.is in
    let low : c.args.at < length c.places_of.result.now = omega (arith, c.requires.at, ap length c.places_of.ensures.are, length-map (layer_places r c.args.layer) (entry_of r)) in
    let P : ℕ → Type 0 = λ n. get_or c.places_of.result.now c.args.at 0 / n < r.shape.groups in
    subst P (sym group) (div_below (get_or c.places_of.result.now c.args.at 0) r.shape.group r.shape.groups c.shape.ensures.valid.group_some (c.places_of.ensures.below c.args.at 0 low))
