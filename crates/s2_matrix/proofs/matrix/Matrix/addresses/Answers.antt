use Rattle.std.proofs.Common.{◌≡◌, ℕ, List, subst, sym, arith}
use Rattle.std.proofs.lemmas.Grind.{common_steps}
use Rattle.s2_mode.specs.Shape.{check_count}
use Rattle.s2_rows.specs.Rows.{AreAddresses, row_of}
use Rattle.s2_matrix.proofs.FlatReads.{held}
use Rattle.s2_matrix.proofs.matrix.Matrix.addresses.Goals as goal

pub returns-clause-addresses : goal.returns-clause-addresses
returns-clause-addresses c =
    let rows = (held c.self.view_is c.self.invariant).rows in
    let are : c.as_slice.result.now ≡ row_of c.args.self.now c.args.group = grind (arith, common_steps) in
    let P : List ℕ → Type 0 = AreAddresses (check_count c.args.self.now.shape) in
    subst P (sym are) (rows.each c.args.group c.requires)
