use Rattle.std.proofs.Common.{ℕ, ◌<◌, get_or}
use Rattle.s2_rows.specs.Rows.{row_of}
use Rattle.s2_table.specs.RowSums.{IsRowSum}
use Rattle.s2_table.proofs.first.first_other.Given as goal

-- each row before has the digest at its place
abbrev pub invariant-rows : goal.invariant-rows
invariant-rows l = (g : ℕ) → g < l.group → IsRowSum (row_of l.matrix g) (get_or l.sums g 0)
