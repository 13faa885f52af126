use Rattle.std.proofs.Common.{◌≡◌, ◌*◌, ◌≤◌, length, sum_by}
use Rattle.s2_rows.specs.Rows.{row_of}
use Rattle.s2_matrix.specs.Total.{upto}
use Rattle.s2_matrix.proofs.lists.address_count.Given as goal

abbrev pub invariant-loop-g : goal.invariant-loop-g
invariant-loop-g l = record {
  is : l.count ≡ sum_by (λ g. length (row_of l.rows g)) (upto l.g);
  few : l.count ≤ 24 * l.g;
}
