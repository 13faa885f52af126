use Rattle.std.proofs.Common.{arith, ◌≡◌, ◌∷◌, [], ◌++◌, ap, subst}
use Rattle.sha2.specs.Hashers.{Holds256}
use Rattle.s2_rows.specs.RowTexts.{rows_text}
use Rattle.s2_table.proofs.RisenRows.{none_risen, one_risen, one_text}
use Rattle.s2_table.proofs.rising.digest_of.Goals as goal

pub loop-group-init : goal.loop-group-init
loop-group-init c = ([], none_risen c.args.matrix.now, c.new-hasher.ensures)

pub loop-group-preserved : goal.loop-group-preserved
loop-group-preserved c =
    let before = c.loop-group.invariant in
    let rows = before.0 in
    let row = c.risen.result.items in
    let is = rw c.addresses.ensures.are at c.risen.ensures in
    let hashed = rw c.as_slice.ensures.value at c.hash_row.ensures (rows_text rows) before.2 in
    (rows ++ row ∷ [], one_risen c.args.matrix.now c.loop-group.group rows row before.1 is, subst (Holds256 c.hash_row.new.hasher) (one_text rows row) hashed)

pub returns : goal.returns
returns c =
    let done = c.loop-group.invariant in
    let end : c.loop-group.group ≡ c.args.matrix.now.shape.groups = omega (arith, ap (λ s. s.groups) c.shape.ensures.is) in
    let risen = rw end at done.1 in
    (done.0, record { long = risen.0; each = risen.1 }, c.finalize.ensures (rows_text done.0) done.2)
