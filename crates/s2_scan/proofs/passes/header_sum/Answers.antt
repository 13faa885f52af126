use Rattle.std.proofs.Common.{ℕ, ◌≡◌, ◌+◌, ◌*◌, ◌<◌, ◌≤◌, ap, sym, subst, ◌∙◌, arith}
use Rattle.s2_scan.specs.Forms.{is_little, symbol_in}
use Rattle.s2_scan.specs.Inside.{IsWithin}
use Rattle.s2_scan.specs.Lines.{is_conjugate}
use Rattle.s2_scan.specs.Passing.{code_at, header_quarters, header_sum}
use Rattle.s2_scan.specs.Sums.{plus, conjugated_if, sum_below, turned_back}
use Rattle.s2_scan.proofs.SumLemmas.{none_within, sum_none, sum_more, turned_within, within_more, within_plus}
use Rattle.s2_scan.proofs.passes.header_sum.Goals as goal

pub loop-k-init : goal.loop-k-init
loop-k-init c = record {
  is = sum_none (λ k. turned_back (header_quarters (code_at c.args.header) k) (conjugated_if (is_conjugate c.args.form) (symbol_in (is_little c.args.form) c.args.window.now k)));
  within = none_within 0;
}

pub loop-k-preserved : goal.loop-k-preserved
loop-k-preserved c =
    let k = c.loop-k.k in
    let f = λ (j : ℕ). turned_back (header_quarters (code_at c.args.header) j) (conjugated_if (is_conjugate c.args.form) (symbol_in (is_little c.args.form) c.args.window.now j)) in
    let symbol = c.conjugated_if-symbol.ensures.is ∙ (λ t. conjugated_if (c.is_conjugate.ensures t) (c.symbol_in.ensures t)) in
    let turned = c.turned_back.ensures ∙ (λ t. turned_back (c.header_quarters-quarters.ensures t) (symbol t)) in
    let part = subst (IsWithin 32768) (sym c.turned_back.ensures) (turned_within c.header_quarters-quarters.result 32768 c.conjugated_if-symbol.result c.conjugated_if-symbol.ensures.within) in
    let together = within_plus (32768 * k) 32768 c.loop-k.sum c.turned_back.result c.loop-k.invariant.within part in
    record {
      is = c.plus-sum.ensures ∙ ((λ t. plus (c.loop-k.invariant.is t) (turned t)) ∙ sum_more f k);
      within = subst (IsWithin (32768 * (k + 1))) (sym c.plus-sum.ensures) (within_more (32768 * k + 32768) (32768 * (k + 1)) _ (omega arith) together);
    }

pub returns-clause-is : goal.returns-clause-is
unfolding header_sum
returns-clause-is c =
    let end : c.loop-k.k ≡ 90 = omega arith in
    c.loop-k.invariant.is ∙ ap (sum_below (λ k. turned_back (header_quarters (code_at c.args.header) k) (conjugated_if (is_conjugate c.args.form) (symbol_in (is_little c.args.form) c.args.window.now k)))) end

pub returns-clause-within : goal.returns-clause-within
returns-clause-within c = within_more (32768 * c.loop-k.k) 37748736 _ (omega arith) c.loop-k.invariant.within
