use Rattle.std.proofs.Common.{◌∙◌, arith}
use Rattle.s2_matrix.specs.Code.{code_of, members}
use Rattle.s2_matrix.proofs.Flats.{few_checks_of}
use Rattle.s2_matrix.proofs.FlatReads.{held, count_is}
use Rattle.s2_matrix.proofs.matrix.Matrix.check_count.Goals as goal

pub returns-clause-is : goal.returns-clause-is
returns-clause-is c =
    let is = held c.self.view_is c.self.invariant in
    let code = code_of c.args.self.now in
    c.len.ensures ∙ count_is (members code) code.checks c.self.inside.members is.by_check_is

pub returns-clause-few : goal.returns-clause-few
returns-clause-few c =
    let is = held c.self.view_is c.self.invariant in
    let code = code_of c.args.self.now in
    omega (arith, c.len.ensures, count_is (members code) code.checks c.self.inside.members is.by_check_is, few_checks_of c.args.self.now is.rows)
