use Rattle.std.proofs.Common.{◌+◌, vec_len, length, arith}
use Rattle.s2_matrix.proofs.Flats.{owners_step}
use Rattle.s2_matrix.proofs.lists.owners_of.Goals as goal

pub loop-check-preserved : goal.loop-check-preserved
loop-check-preserved c =
    owners_step c.args.by_check.now c.loop-check.owners.items c.resize.new.self.items c.row.result.now (vec_len c.loop-check.owners) (c.len.result + length c.row.result.now) c.loop-check.check c.loop-check.invariant (omega arith) c.row.ensures (omega (arith, c.len.ensures)) c.in_ok-resize.ensures.items
