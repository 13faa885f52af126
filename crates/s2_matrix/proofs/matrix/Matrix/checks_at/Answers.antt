use Rattle.std.proofs.Common.{◌<◌, length, ap, arith}
use Rattle.std.proofs.lemmas.List.Elements.{All-same}
use Rattle.s2_matrix.specs.Code.{code_of, checks_of}
use Rattle.s2_matrix.proofs.Degrees.{few_checks}
use Rattle.s2_matrix.proofs.FlatReads.{held, count_is, row_is, checks_below}
use Rattle.s2_matrix.proofs.matrix.Matrix.checks_at.Goals as goal

pub row-requires : goal.row-requires
row-requires c =
    let is = held c.self.view_is c.self.invariant in
    let code = code_of c.args.self.now in
    omega (arith, c.requires, count_is (checks_of code) code.bits c.self.inside.checks is.checks_is)

pub returns-clause-are : goal.returns-clause-are
returns-clause-are c =
    let is = held c.self.view_is c.self.invariant in
    let code = code_of c.args.self.now in
    row_is (checks_of code) code.bits c.args.bit c.self.inside.checks c.row.result.now is.checks_is c.requires c.row.ensures

pub returns-clause-below : goal.returns-clause-below
returns-clause-below c =
    let is = held c.self.view_is c.self.invariant in
    let code = code_of c.args.self.now in
    All-same (λ j. j < code.checks) c.row.result.now (checks_of code c.args.bit) (row_is (checks_of code) code.bits c.args.bit c.self.inside.checks c.row.result.now is.checks_is c.requires c.row.ensures) (checks_below code c.args.bit)

pub returns-clause-few : goal.returns-clause-few
returns-clause-few c =
    let is = held c.self.view_is c.self.invariant in
    let code = code_of c.args.self.now in
    omega (arith, ap length (row_is (checks_of code) code.bits c.args.bit c.self.inside.checks c.row.result.now is.checks_is c.requires c.row.ensures), few_checks c.args.self.now c.args.bit is.rows)
