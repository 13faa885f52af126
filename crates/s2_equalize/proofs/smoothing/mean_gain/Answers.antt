use Rattle.std.proofs.Common.{◌≡◌, ℕ, ◌-◌, ◌*◌, ◌<◌, sym, ap₂, subst, ◌∙◌, arith}
use Rattle.s2_equalize.specs.declared.complex.Complex.{Complex}
use Rattle.s2_equalize.specs.Bounds.{mean_bound, turned_bound}
use Rattle.s2_equalize.specs.Complex.{IsWithin, over, scaled, sum_from}
use Rattle.s2_equalize.specs.Gains.{count_near, first_near, mean_gain, turned, weight, weights}
use Rattle.s2_equalize.proofs.Sizes.{over_within, within_more}
use Rattle.s2_equalize.proofs.smoothing.mean_gain.Goals as goal

pub returns-clause-is : goal.returns-clause-is
unfolding mean_gain
returns-clause-is c turn are =
    let gains = c.args.gains.now in
    let k = c.args.k in
    let f = λ (j : ℕ). scaled (weight j) (turned gains turn k j) in
    let at : c.saturating_sub-at.result ≡ first_near k = c.saturating_sub-at.ensures in
    let count : c.min-end.result - c.saturating_sub-at.result ≡ count_near gains k = ap₂ (λ (x : ℕ) (y : ℕ). x - y) c.min-end.ensures at in
    let total = c.weighted-near.ensures.weight ∙ ap₂ weights at count in
    let sum = c.weighted-near.ensures.sum turn are ∙ ap₂ (sum_from f) at count in
    c.over.ensures ∙ ap₂ (λ (n : ℕ) (s : Complex). over (32768 * n) s) total sum

pub returns-clause-most : goal.returns-clause-most
returns-clause-most c =
    let near = c.weighted-near.result in
    let least = c.weighted-near.ensures.least in
    let at = c.saturating_sub-at.ensures in
    let end = c.min-end.ensures in
    let some : 0 < near.weight = omega (arith, least, at, end) in
    subst (IsWithin mean_bound) (sym c.over.ensures)
    (over_within (32768 * near.weight) mean_bound near.sum (omega (arith, some))
    (within_more (turned_bound * near.weight) (mean_bound * (32768 * near.weight)) near.sum (omega arith) c.weighted-near.ensures.most))
