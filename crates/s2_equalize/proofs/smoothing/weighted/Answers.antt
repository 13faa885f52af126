use Rattle.std.proofs.Common.{◌≡◌, ℕ, ◌+◌, ◌-◌, ◌*◌, ◌≤◌, sym, ap, ap₂, subst, ◌∙◌, arith}
use Rattle.s2_equalize.specs.declared.complex.Complex.{Complex}
use Rattle.s2_equalize.specs.Bounds.{turned_bound}
use Rattle.s2_equalize.specs.Complex.{IsWithin, plus, scaled, sum_from}
use Rattle.s2_equalize.specs.Gains.{turned, weight, weights}
use Rattle.s2_equalize.proofs.Sizes.{origin_within, plus_within, scaled_within, sum_more, sum_none, within_more}
use Rattle.s2_equalize.proofs.Weights.{weights_more, weights_none}
use Rattle.s2_equalize.proofs.smoothing.weighted.Goals as goal

-- one term more of a sum from a place on
summed_more : (f : ℕ → Complex) (at l : ℕ) (sum term : Complex) → at ≤ l → sum ≡ sum_from f at (l - at) → term ≡ f l → plus sum term ≡ sum_from f at (l + 1 - at)
summed_more f at l sum term le is here =
    let place : at + (l - at) ≡ l = omega (arith, le) in
    let next : l - at + 1 ≡ l + 1 - at = omega (arith, le) in
    ap₂ plus is (here ∙ ap f (sym place)) ∙ (sym (sum_more f at (l - at)) ∙ ap (sum_from f at) next)

counted_more : (at l total more : ℕ) → at ≤ l → total ≡ weights at (l - at) → more ≡ weight l → total + more ≡ weights at (l + 1 - at)
counted_more at l total more le is here =
    let place : at + (l - at) ≡ l = omega (arith, le) in
    let next : l - at + 1 ≡ l + 1 - at = omega (arith, le) in
    ap₂ (λ (x : ℕ) (y : ℕ). x + y) is (here ∙ ap weight (sym place)) ∙ (sym (weights_more at (l - at)) ∙ ap (weights at) next)

within_both : (total more : ℕ) (sum term : Complex) → IsWithin (turned_bound * total) sum → IsWithin (more * turned_bound) term → IsWithin (turned_bound * (total + more)) (plus sum term)
within_both total more sum term p q =
    within_more (turned_bound * total + more * turned_bound) (turned_bound * (total + more)) (plus sum term) (omega arith) (plus_within (turned_bound * total) (more * turned_bound) sum term p q)

pub loop-l-init : goal.loop-l-init
loop-l-init c =
    let at = c.args.at in
    let none : 0 ≡ at - at = omega arith in
    record {
      counted = weights_none at ∙ ap (weights at) none;
      summed = λ turn _.
          let f = λ (j : ℕ). scaled (weight j) (turned c.args.gains.now turn c.args.k j) in
          sum_none f at ∙ ap (sum_from f at) none;
      most = origin_within (turned_bound * 0);
      least = omega arith;
      few = omega arith;
    }

pub loop-l-preserved : goal.loop-l-preserved
loop-l-preserved c =
    let l = c.loop-l.l in
    let at = c.args.at in
    let before = c.loop-l.invariant in
    let least : at ≤ l = omega arith in
    let term_most = subst (IsWithin (c.weight-weight.result * turned_bound)) (sym c.scaled.ensures) (scaled_within c.weight-weight.result turned_bound c.turned-gain.result c.turned-gain.ensures.most) in
    record {
      counted = counted_more at l c.loop-l.all.weight c.weight-weight.result least before.counted c.weight-weight.ensures.is;
      summed = λ turn are.
          let f = λ (j : ℕ). scaled (weight j) (turned c.args.gains.now turn c.args.k j) in
          let term : c.scaled.result ≡ f l = c.scaled.ensures ∙ ap₂ scaled c.weight-weight.ensures.is (c.turned-gain.ensures.is turn are) in
          c.plus-all.ensures ∙ summed_more f at l c.loop-l.all.sum c.scaled.result least (before.summed turn are) term;
      most = subst (IsWithin (turned_bound * (c.loop-l.all.weight + c.weight-weight.result))) (sym c.plus-all.ensures)
          (within_both c.loop-l.all.weight c.weight-weight.result c.loop-l.all.sum c.scaled.result before.most term_most);
      least = omega arith;
      few = omega arith;
    }

pub returns-clause-sum : goal.returns-clause-sum
returns-clause-sum c turn are =
    let end : c.loop-l.l - c.args.at ≡ c.args.end - c.args.at = omega arith in
    c.loop-l.invariant.summed turn are ∙ ap (sum_from (λ j. scaled (weight j) (turned c.args.gains.now turn c.args.k j)) c.args.at) end
