use Rattle.std.proofs.Common.{◌≡◌, ◌*◌}
use Rattle.s2_scan.specs.Forms.{is_little, symbol_in}
use Rattle.s2_scan.specs.Inside.{IsWithin}
use Rattle.s2_scan.specs.Lines.{is_conjugate}
use Rattle.s2_scan.specs.Passing.{code_at, header_quarters}
use Rattle.s2_scan.specs.Sums.{conjugated_if, sum_below, turned_back}
use Rattle.s2_scan.proofs.passes.header_sum.Given as goal

abbrev pub invariant-loop-k : goal.invariant-loop-k
invariant-loop-k l = record {
  is : l.sum ≡ sum_below (λ k. turned_back (header_quarters (code_at l.header) k) (conjugated_if (is_conjugate l.form) (symbol_in (is_little l.form) l.window k))) l.k;
  within : IsWithin (32768 * l.k) l.sum;
}
