use Rattle.std.proofs.Common.{length, length-append, arith}
use Rattle.s2_bits.specs.Lanes16.{plus16}
use Rattle.s2_bits.proofs.RotatedRows.{rotated_added}
use Rattle.s2_settle.proofs.kernels.add_back.Goals as goal

pub returns : goal.returns
returns c =
    let row = c.split_at_mut-low.ensures in
    let changes = c.split_at.ensures in
    λ k lt. rotated_added plus16 (length c.args.row.now) c.args.shift c.args.row.now _ _ c.sum_into.new.to c.sum_into-2.new.to c.args.changes.now _ _
    c.requires.rotation (omega (arith, c.sum_into.auto.to, row.front_len)) row.front row.back changes.front changes.back
    (λ j l. c.sum_into.ensures j (omega (arith, c.sum_into.auto.to, row.front_len))) (λ j l. c.sum_into-2.ensures j (omega (arith, c.requires.rotation, c.sum_into-2.auto.to, row.back_len)))
    k (omega (arith, length-append c.sum_into.new.to c.sum_into-2.new.to, c.sum_into.auto.to, c.sum_into-2.auto.to, row.front_len, row.back_len))
