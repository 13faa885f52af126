use Rattle.std.proofs.Common.{◌≡◌, ◌*◌, filter, pos, neg_ℤ, ◌≤ℤ◌}
use Rattle.s2_matrix.specs.Total.{total, upto}
use Rattle.s2_bits.specs.Bits.{bit_at}
use Rattle.s2_check.specs.Cost.{value_at}
use Rattle.s2_compare.proofs.answers.cost_under.Given as goal

abbrev pub invariant-bits : goal.invariant-bits
invariant-bits l = record {
  sum : l.cost ≡ total (value_at l.view.soft) (filter (bit_at l.word) (upto l.i));
  low : neg_ℤ (pos (32768 * l.i)) ≤ℤ l.cost;
  high : l.cost ≤ℤ pos (32768 * l.i);
}
