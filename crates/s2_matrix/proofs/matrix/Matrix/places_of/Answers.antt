use Rattle.std.proofs.Common.{◌<◌, length, ap, arith}
use Rattle.std.proofs.lemmas.List.Elements.{All-same}
use Rattle.s2_mode.specs.Shape.{information_bits}
use Rattle.s2_matrix.specs.Layers.{layer_places, layer_code}
use Rattle.s2_matrix.proofs.Members.{members_below, length-members}
use Rattle.s2_matrix.proofs.FlatReads.{held, count_is, row_is}
use Rattle.s2_matrix.proofs.matrix.Matrix.places_of.Goals as goal

pub row-requires : goal.row-requires
row-requires c =
    let is = held c.self.view_is c.self.invariant in
    let r = c.args.self.now in
    omega (arith, c.requires, count_is (layer_places r) r.shape.q c.self.inside.layers is.layers_is)

pub returns-clause-are : goal.returns-clause-are
returns-clause-are c =
    let is = held c.self.view_is c.self.invariant in
    let r = c.args.self.now in
    row_is (layer_places r) r.shape.q c.args.layer c.self.inside.layers c.row.result.now is.layers_is c.requires c.row.ensures

pub returns-clause-below : goal.returns-clause-below
returns-clause-below c =
    let is = held c.self.view_is c.self.invariant in
    let r = c.args.self.now in
    All-same (λ p. p < information_bits r.shape) c.row.result.now (layer_places r c.args.layer) (row_is (layer_places r) r.shape.q c.args.layer c.self.inside.layers c.row.result.now is.layers_is c.requires c.row.ensures) (members_below (layer_code r) c.args.layer)

pub returns-clause-short : goal.returns-clause-short
returns-clause-short c =
    let is = held c.self.view_is c.self.invariant in
    let r = c.args.self.now in
    omega (arith, ap length (row_is (layer_places r) r.shape.q c.args.layer c.self.inside.layers c.row.result.now is.layers_is c.requires c.row.ensures), length-members (layer_code r) c.args.layer, is.rows.shaped.few)
