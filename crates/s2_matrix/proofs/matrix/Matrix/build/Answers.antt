use Rattle.std.proofs.Common.{ℕ, map, subst, sym}
use Rattle.s2_rows.specs.Rows.{Rows}
use Rattle.s2_matrix.specs.Edges.{IsMatrix}
use Rattle.s2_matrix.proofs.Flats.{same_rows, is_matrix}
use Rattle.arrayvec.specs.declared.array_vec.ArrayVec.{ArrayVec}
use Rattle.s2_matrix.proofs.matrix.Matrix.build.Goals as goal

pub invariant_of-result : goal.invariant_of-result
invariant_of-result c =
    let r = c.args.rows.now in
    let f = λ (row : ArrayVec ℕ 24 (Unit {0})). row.items in
    let P : Rows → Type 0 = λ x. IsMatrix x c.in_ok-members.members c.in_ok-edges.edges c.in_ok-checks.checks c.in_ok-layers.layers in
    subst P (sym (same_rows r c.shape.result (map f c.in_ok-copy.copy.items) c.shape.ensures.is c.in_ok-copy.ensures)) (is_matrix r c.in_ok-members.members c.in_ok-edges.edges c.in_ok-checks.checks c.in_ok-layers.layers c.shape.ensures.valid c.in_ok-members.ensures.are c.in_ok-members.ensures.few c.in_ok-edges.ensures c.in_ok-checks.ensures c.in_ok-layers.ensures)
