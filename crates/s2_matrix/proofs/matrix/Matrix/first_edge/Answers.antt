use Rattle.std.proofs.Common.{arith}
use Rattle.s2_matrix.specs.Code.{code_of, members}
use Rattle.s2_matrix.proofs.FlatReads.{held, count_is, first_is}
use Rattle.s2_matrix.proofs.matrix.Matrix.first_edge.Goals as goal

pub first-requires : goal.first-requires
first-requires c =
    let is = held c.self.view_is c.self.invariant in
    let code = code_of c.args.self.now in
    omega (arith, c.requires, count_is (members code) code.checks c.self.inside.members is.by_check_is)

pub returns : goal.returns
returns c =
    let is = held c.self.view_is c.self.invariant in
    let code = code_of c.args.self.now in
    first_is code c.args.check c.first.result c.self.inside.members is.by_check_is c.requires c.first.ensures
