use Rattle.std.proofs.Common.{ℕ, ◌≡◌, ◌+◌, ◌*◌, ◌<◌, ◌≤◌, get_or, length, ap, sym, subst, ◌∙◌, arith}
use Rattle.s2_scan.specs.Inside.{IsWithin}
use Rattle.s2_scan.specs.Pilots.{pilot_place, pilot_sum, position_at, symbol_at}
use Rattle.s2_scan.specs.Sums.{plus, sum_below}
use Rattle.s2_scan.proofs.Gaps.{no_pass}
use Rattle.s2_scan.proofs.SumLemmas.{none_within, sum_none, sum_more, within_more, within_plus}
use Rattle.s2_scan.proofs.pilots.pilot_sum.Goals as goal

pub loop-j-init : goal.loop-j-init
loop-j-init c = record {
  is = sum_none (λ j. symbol_at c.args.form c.args.bytes.now (position_at c.args.frames.now j + (90 + pilot_place c.args.k)));
  within = none_within 0;
}

pub loop-j-preserved : goal.loop-j-preserved
loop-j-preserved c =
    let j = c.loop-j.j in
    let frames = c.args.frames.now in
    let f = λ (i : ℕ). symbol_at c.args.form c.args.bytes.now (position_at frames i + (90 + pilot_place c.args.k)) in
    let place = ap (λ p. 90 + p) c.pilot_place-place.ensures.is in
    let part = c.symbol_at.ensures.is ∙ (λ t. symbol_at c.args.form c.args.bytes.now ((get_or frames j no_pass).position + place t)) in
    let together = within_plus (32768 * j) 32768 c.loop-j.sum c.symbol_at.result c.loop-j.invariant.within c.symbol_at.ensures.within in
    record {
      is = c.plus-sum.ensures ∙ ((λ t. plus (c.loop-j.invariant.is t) (part t)) ∙ sum_more f j);
      within = subst (IsWithin (32768 * (j + 1))) (sym c.plus-sum.ensures) (within_more (32768 * j + 32768) (32768 * (j + 1)) _ (omega arith) together);
    }

pub returns-clause-is : goal.returns-clause-is
unfolding pilot_sum
returns-clause-is c =
    let end : c.loop-j.j ≡ length c.args.frames.now = omega arith in
    c.loop-j.invariant.is ∙ ap (sum_below (λ j. symbol_at c.args.form c.args.bytes.now (position_at c.args.frames.now j + (90 + pilot_place c.args.k)))) end
