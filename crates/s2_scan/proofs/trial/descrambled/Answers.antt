use Rattle.std.proofs.Common.{ℕ, ◌≡◌, ◌+◌, ◌*◌, ◌<◌, ◌≤◌, ◌^◌, get_or, length, ap, sym, subst, ◌∙◌, arith}
use Rattle.s2_scramble.specs.Gold.{quarter_turns}
use Rattle.s2_scan.specs.Inside.{IsWithin}
use Rattle.s2_scan.specs.Pilots.{descrambled, pilot_place}
use Rattle.s2_scan.specs.Sums.{no_sum, plus, sum_below, turned_back}
use Rattle.s2_scan.specs.declared.sums.Sum.{Sum}
use Rattle.s2_scan.proofs.SumLemmas.{none_within, sum_none, sum_more, turned_within, within_more, within_plus}
use Rattle.s2_scan.proofs.trial.descrambled.Goals as goal

pub loop-k-init : goal.loop-k-init
loop-k-init c = record {
  is = sum_none (λ k. turned_back (quarter_turns c.args.number (pilot_place k)) (get_or c.args.pilots.now k no_sum));
  within = none_within 0;
}

pub loop-k-preserved : goal.loop-k-preserved
loop-k-preserved c =
    let k = c.loop-k.k in
    let pilots = c.args.pilots.now in
    let f = λ (j : ℕ). turned_back (quarter_turns c.args.number (pilot_place j)) (get_or pilots j no_sum) in
    let each = c.requires.pilots.each k (omega arith) in
    let quarters = c.quarter-quarters.ensures ∙ ap (quarter_turns c.args.number) c.pilot_place.ensures.is in
    let turned = c.turned_back.ensures ∙ (λ t. turned_back (quarters t) (get_or pilots k no_sum)) in
    let part = subst (IsWithin 524288) (sym c.turned_back.ensures) (turned_within c.quarter-quarters.result 524288 (get_or pilots k no_sum) each) in
    let together = within_plus (524288 * k) 524288 c.loop-k.sum c.turned_back.result c.loop-k.invariant.within part in
    record {
      is = c.plus-sum.ensures ∙ ((λ t. plus (c.loop-k.invariant.is t) (turned t)) ∙ sum_more f k);
      within = subst (IsWithin (524288 * (k + 1))) (sym c.plus-sum.ensures) (within_more (524288 * k + 524288) (524288 * (k + 1)) _ (omega arith) together);
    }

pub returns-clause-is : goal.returns-clause-is
unfolding descrambled
returns-clause-is c =
    let end : c.loop-k.k ≡ 72 = omega arith in
    c.loop-k.invariant.is ∙ ap (sum_below (λ k. turned_back (quarter_turns c.args.number (pilot_place k)) (get_or c.args.pilots.now k no_sum))) end
