use Rattle.std.proofs.Common.{◌≡◌, ◌*◌, ◌-◌, ◌∙◌, sym, ap, Some, arith}
use Rattle.s2_names.specs.RateTexts.{number_after}
use Rattle.s2_names.proofs.DigitTexts.{number_grows}
use Rattle.s2_names.proofs.RateTextLemmas.{Cut, cut_only, cut_scaled, over_limit, in_limit, at_most_scaled}
use Rattle.s2_names.proofs.rate_text.scaled.Goals as goal

pub returns-in_err-with_digits-clause-only : goal.returns-in_err-with_digits-clause-only
returns-in_err-with_digits-clause-only c number few is =
    let cut : Cut c.args.fraction.now c.split_at.result.0.now c.split_at.result.1.now c.args.power c.moved-moved.result =
    record { within = c.moved-moved.ensures.within; few = c.moved-moved.ensures.few; most = c.moved-moved.ensures.most; front_is = c.split_at.ensures.front; back_is = c.split_at.ensures.back } in
    let only = cut_only c.args.whole.now c.args.fraction.now c.split_at.result.0.now c.split_at.result.1.now c.args.power c.moved-moved.result number cut c.requires.fraction is in
    let over = over_limit (number_after 0 c.split_at.result.1.now) (sym c.in_err-with_digits.was ∙ c.with_digits.ensures) in
    absurd (omega (arith, only.none, over))

pub returns-then-branch-ne0-clause-only : goal.returns-then-branch-ne0-clause-only
returns-then-branch-ne0-clause-only c number few is =
    let cut : Cut c.args.fraction.now c.split_at.result.0.now c.split_at.result.1.now c.args.power c.moved-moved.result =
    record { within = c.moved-moved.ensures.within; few = c.moved-moved.ensures.few; most = c.moved-moved.ensures.most; front_is = c.split_at.ensures.front; back_is = c.split_at.ensures.back } in
    let only = cut_only c.args.whole.now c.args.fraction.now c.split_at.result.0.now c.split_at.result.1.now c.args.power c.moved-moved.result number cut c.requires.fraction is in
    let same = in_limit (number_after 0 c.split_at.result.1.now) c.in_ok-with_digits.field-0 (sym c.in_ok-with_digits.was ∙ c.with_digits.ensures) in
    absurd (c.if-branch-ne0.true (same ∙ only.none))

pub returns-in_err-with_digits-2-clause-only : goal.returns-in_err-with_digits-2-clause-only
returns-in_err-with_digits-2-clause-only c number few is =
    let cut : Cut c.args.fraction.now c.split_at.result.0.now c.split_at.result.1.now c.args.power c.moved-moved.result =
    record { within = c.moved-moved.ensures.within; few = c.moved-moved.ensures.few; most = c.moved-moved.ensures.most; front_is = c.split_at.ensures.front; back_is = c.split_at.ensures.back } in
    let only = cut_only c.args.whole.now c.args.fraction.now c.split_at.result.0.now c.split_at.result.1.now c.args.power c.moved-moved.result number cut c.requires.fraction is in
    let v = number_after (number_after 0 c.args.whole.now) c.split_at.result.0.now in
    let over = over_limit (number_after 0 c.args.whole.now) (sym c.in_err-with_digits-2.was ∙ c.with_digits-2.ensures) in
    let grows = number_grows (number_after 0 c.args.whole.now) c.split_at.result.0.now in
    let most = at_most_scaled v number (c.args.power - c.moved-moved.result) only.value in
    absurd (omega (arith, over, grows, most, few))

pub returns-in_err-number-clause-only : goal.returns-in_err-number-clause-only
returns-in_err-number-clause-only c number few is =
    let cut : Cut c.args.fraction.now c.split_at.result.0.now c.split_at.result.1.now c.args.power c.moved-moved.result =
    record { within = c.moved-moved.ensures.within; few = c.moved-moved.ensures.few; most = c.moved-moved.ensures.most; front_is = c.split_at.ensures.front; back_is = c.split_at.ensures.back } in
    let only = cut_only c.args.whole.now c.args.fraction.now c.split_at.result.0.now c.split_at.result.1.now c.args.power c.moved-moved.result number cut c.requires.fraction is in
    let first = in_limit (number_after 0 c.args.whole.now) c.in_ok-with_digits-2.field-0 c.in_ok-with_digits-2.ensures in
    let over = over_limit (number_after c.in_ok-with_digits-2.field-0 c.split_at.result.0.now) c.in_err-number.ensures in
    let v = number_after (number_after 0 c.args.whole.now) c.split_at.result.0.now in
    let same : number_after c.in_ok-with_digits-2.field-0 c.split_at.result.0.now ≡ v = ap (λ n. number_after n c.split_at.result.0.now) first in
    let most = at_most_scaled v number (c.args.power - c.moved-moved.result) only.value in
    absurd (omega (arith, over, same, most, few))

pub returns-clause-value : goal.returns-clause-value
returns-clause-value c =
    let cut : Cut c.args.fraction.now c.split_at.result.0.now c.split_at.result.1.now c.args.power c.moved-moved.result =
    record { within = c.moved-moved.ensures.within; few = c.moved-moved.ensures.few; most = c.moved-moved.ensures.most; front_is = c.split_at.ensures.front; back_is = c.split_at.ensures.back } in
    let none = in_limit (number_after 0 c.split_at.result.1.now) c.in_ok-with_digits.field-0 c.in_ok-with_digits.ensures in
    let first = in_limit (number_after 0 c.args.whole.now) c.in_ok-with_digits-2.field-0 c.in_ok-with_digits-2.ensures in
    let all = in_limit (number_after c.in_ok-with_digits-2.field-0 c.split_at.result.0.now) c.in_ok-number.number c.in_ok-number.ensures in
    cut_scaled c.args.whole.now c.args.fraction.now c.split_at.result.0.now c.split_at.result.1.now c.args.power c.moved-moved.result c.in_ok-number.number c.pow.result cut
    (sym none ∙ c.if-branch-ne0.false) (all ∙ ap (λ n. number_after n c.split_at.result.0.now) first) c.pow.ensures

pub returns-clause-only : goal.returns-clause-only
returns-clause-only c number few is =
    let cut : Cut c.args.fraction.now c.split_at.result.0.now c.split_at.result.1.now c.args.power c.moved-moved.result =
    record { within = c.moved-moved.ensures.within; few = c.moved-moved.ensures.few; most = c.moved-moved.ensures.most; front_is = c.split_at.ensures.front; back_is = c.split_at.ensures.back } in
    let only = cut_only c.args.whole.now c.args.fraction.now c.split_at.result.0.now c.split_at.result.1.now c.args.power c.moved-moved.result number cut c.requires.fraction is in
    let first = in_limit (number_after 0 c.args.whole.now) c.in_ok-with_digits-2.field-0 c.in_ok-with_digits-2.ensures in
    let all = in_limit (number_after c.in_ok-with_digits-2.field-0 c.split_at.result.0.now) c.in_ok-number.number c.in_ok-number.ensures in
    let here : c.in_ok-number.number ≡ number_after (number_after 0 c.args.whole.now) c.split_at.result.0.now = all ∙ ap (λ n. number_after n c.split_at.result.0.now) first in
    ap Some (ap (λ n. n * c.pow.result) here ∙ ap (λ n. number_after (number_after 0 c.args.whole.now) c.split_at.result.0.now * n) c.pow.ensures ∙ sym only.value)
