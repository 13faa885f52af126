use Rattle.std.proofs.Common.{◌<◌, length, ap, arith}
use Rattle.std.proofs.lemmas.List.Elements.{All-same}
use Rattle.s2_matrix.specs.Code.{code_of, edges_at, first_edge}
use Rattle.s2_matrix.proofs.Members.{edges_below}
use Rattle.s2_matrix.proofs.Degrees.{few_edges}
use Rattle.s2_matrix.proofs.FlatReads.{held, count_is, row_is}
use Rattle.s2_matrix.proofs.matrix.Matrix.edges_at.Goals as goal

pub row-requires : goal.row-requires
row-requires c =
    let is = held c.self.view_is c.self.invariant in
    let code = code_of c.args.self.now in
    omega (arith, c.requires, count_is (edges_at code) code.bits c.self.inside.edges is.edges_is)

pub returns-clause-are : goal.returns-clause-are
returns-clause-are c =
    let is = held c.self.view_is c.self.invariant in
    let code = code_of c.args.self.now in
    row_is (edges_at code) code.bits c.args.bit c.self.inside.edges c.row.result.now is.edges_is c.requires c.row.ensures

pub returns-clause-below : goal.returns-clause-below
returns-clause-below c =
    let is = held c.self.view_is c.self.invariant in
    let code = code_of c.args.self.now in
    All-same (λ e. e < first_edge code code.checks) c.row.result.now (edges_at code c.args.bit) (row_is (edges_at code) code.bits c.args.bit c.self.inside.edges c.row.result.now is.edges_is c.requires c.row.ensures) (edges_below code c.args.bit c.requires)

pub returns-clause-few : goal.returns-clause-few
returns-clause-few c =
    let is = held c.self.view_is c.self.invariant in
    let code = code_of c.args.self.now in
    omega (arith, ap length (row_is (edges_at code) code.bits c.args.bit c.self.inside.edges c.row.result.now is.edges_is c.requires c.row.ensures), few_edges c.args.self.now c.args.bit is.rows)
