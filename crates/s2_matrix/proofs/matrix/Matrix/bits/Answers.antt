use Rattle.std.proofs.Common.{◌∙◌, arith}
use Rattle.s2_matrix.specs.Code.{code_of, edges_at}
use Rattle.s2_matrix.proofs.Degrees.{few_checks}
use Rattle.s2_matrix.proofs.FlatReads.{held, count_is}
use Rattle.s2_matrix.proofs.matrix.Matrix.bits.Goals as goal

pub returns-clause-is : goal.returns-clause-is
returns-clause-is c =
    let is = held c.self.view_is c.self.invariant in
    let code = code_of c.args.self.now in
    c.len.ensures ∙ count_is (edges_at code) code.bits c.self.inside.edges is.edges_is

pub returns-clause-few : goal.returns-clause-few
returns-clause-few c =
    let is = held c.self.view_is c.self.invariant in
    let code = code_of c.args.self.now in
    omega (arith, c.len.ensures, count_is (edges_at code) code.bits c.self.inside.edges is.edges_is, is.rows.shaped.few)

pub returns-clause-few_checks : goal.returns-clause-few_checks
returns-clause-few_checks c =
    let is = held c.self.view_is c.self.invariant in
    λ i. few_checks c.args.self.now i is.rows
