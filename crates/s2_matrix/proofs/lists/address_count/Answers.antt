use Rattle.std.proofs.Common.{◌≡◌, ℕ, ◌+◌, length, ap, arith}
use Rattle.std.specs.List.{sum_by}
use Rattle.std.proofs.lemmas.List.Sums.{sum_by_push}
use Rattle.s2_rows.specs.Rows.{row_of}
use Rattle.s2_matrix.specs.Total.{upto}
use Rattle.s2_matrix.proofs.Totals.{upto_more}
use Rattle.s2_matrix.proofs.lists.address_count.Goals as goal

sum_more : (f : ℕ → ℕ) (n sum k : ℕ) → sum ≡ sum_by f (upto n) → k ≡ f n → sum + k ≡ sum_by f (upto (n + 1))
sum_more f n sum k so_far one = omega (arith, ap (sum_by f) (upto_more n), sum_by_push f (upto n) n)

pub loop-g-preserved : goal.loop-g-preserved
loop-g-preserved c =
    let f = λ (g : ℕ). length (row_of c.args.rows.now g) in
    record {
      is = sum_more f c.loop-g.g c.loop-g.count (length c.row.result.now) c.loop-g.invariant.is (ap length c.row.ensures.are);
      few = omega (arith, c.row.ensures.short, c.loop-g.invariant.few);
    }
