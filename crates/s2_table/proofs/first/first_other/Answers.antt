use Rattle.std.proofs.Common.{◌∙◌}
use Rattle.s2_table.proofs.RowSumLaws.{one_more}
use Rattle.s2_table.proofs.first.first_other.Goals as goal

pub rows-preserved : goal.rows-preserved
rows-preserved c =
    one_more c.args.matrix.now c.args.sums.now c.rows.group c.addresses.result.now c.row_sum.result c.rows.invariant c.addresses.ensures.are c.row_sum.ensures
    (c.if-row_sum-sum_at.false ∙ c.sum_at.ensures)
