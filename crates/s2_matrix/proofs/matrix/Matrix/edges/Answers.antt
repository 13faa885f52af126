use Rattle.std.proofs.Common.{arith}
use Rattle.s2_matrix.specs.Code.{code_of}
use Rattle.s2_matrix.proofs.FlatReads.{held, all_is}
use Rattle.s2_matrix.proofs.matrix.Matrix.edges.Goals as goal

pub returns-clause-is : goal.returns-clause-is
returns-clause-is c =
    let is = held c.self.view_is c.self.invariant in
    let code = code_of c.args.self.now in
    all_is code c.all.result.now c.self.inside.members is.by_check_is c.all.ensures

pub returns-clause-few : goal.returns-clause-few
returns-clause-few c =
    let is = held c.self.view_is c.self.invariant in
    let code = code_of c.args.self.now in
    omega (arith, all_is code c.all.result.now c.self.inside.members is.by_check_is c.all.ensures, is.few_edges)
