use Rattle.std.proofs.Common.{◌≡◌, ℕ, List, subst, sym, arith}
use Rattle.std.proofs.lemmas.Grind.{common_steps}
use Rattle.s2_mode.specs.Shape.{check_count}
use Rattle.s2_rows.specs.Rows.{IsRows, AreAddresses, row_of}
use Rattle.s2_rows.proofs.rows.Rows.row.Goals as goal

pub returns-clause-addresses : goal.returns-clause-addresses
returns-clause-addresses c =
    let rows : IsRows c.args.self.now = subst IsRows c.self.view_is c.self.invariant in
    let are : c.as_slice.result.now ≡ row_of c.args.self.now c.args.i = grind (arith, common_steps) in
    let P : List ℕ → Type 0 = AreAddresses (check_count c.args.self.now.shape) in
    subst P (sym are) (rows.each c.args.i c.requires)
