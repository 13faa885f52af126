use Rattle.std.proofs.Common.{◌<◌, length, ap, arith}
use Rattle.std.proofs.lemmas.List.Elements.{All-same}
use Rattle.s2_matrix.specs.Code.{code_of, members}
use Rattle.s2_matrix.proofs.Members.{members_below, first_edge_within, length-members}
use Rattle.s2_matrix.proofs.FlatReads.{held, count_is, row_is}
use Rattle.s2_matrix.proofs.matrix.Matrix.members_at.Goals as goal

pub row-requires : goal.row-requires
row-requires c =
    let is = held c.self.view_is c.self.invariant in
    let code = code_of c.args.self.now in
    omega (arith, c.requires, count_is (members code) code.checks c.self.inside.members is.by_check_is)

pub returns-clause-are : goal.returns-clause-are
returns-clause-are c =
    let is = held c.self.view_is c.self.invariant in
    let code = code_of c.args.self.now in
    row_is (members code) code.checks c.args.check c.self.inside.members c.row.result.now is.by_check_is c.requires c.row.ensures

pub returns-clause-below : goal.returns-clause-below
returns-clause-below c =
    let is = held c.self.view_is c.self.invariant in
    let code = code_of c.args.self.now in
    All-same (λ i. i < code.bits) c.row.result.now (members code c.args.check) (row_is (members code) code.checks c.args.check c.self.inside.members c.row.result.now is.by_check_is c.requires c.row.ensures) (members_below code c.args.check)

pub returns-clause-short : goal.returns-clause-short
returns-clause-short c =
    let is = held c.self.view_is c.self.invariant in
    let code = code_of c.args.self.now in
    omega (arith, ap length (row_is (members code) code.checks c.args.check c.self.inside.members c.row.result.now is.by_check_is c.requires c.row.ensures), length-members code c.args.check, is.rows.shaped.few)

pub returns-clause-within : goal.returns-clause-within
returns-clause-within c =
    let is = held c.self.view_is c.self.invariant in
    let code = code_of c.args.self.now in
    omega (arith, ap length (row_is (members code) code.checks c.args.check c.self.inside.members c.row.result.now is.by_check_is c.requires c.row.ensures), first_edge_within code c.args.check c.requires)
