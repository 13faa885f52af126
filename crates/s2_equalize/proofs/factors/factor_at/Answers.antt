use Rattle.std.proofs.Common.{◌≡◌, ℕ, ◌+◌, ◌-◌, ◌*◌, ◌/◌, ◌%◌, min, length, List, sym, ap, ap₂, subst, ◌∙◌, arith}
use Rattle.s2_equalize.specs.declared.complex.Complex.{Complex}
use Rattle.s2_equalize.specs.Bounds.{factor_bound}
use Rattle.s2_equalize.specs.Complex.{IsWithin, complex_at, over, plus, scaled}
use Rattle.s2_equalize.specs.Equalizer.{factor_at}
use Rattle.s2_equalize.proofs.Sizes.{over_within, plus_within, scaled_within, within_more}
use Rattle.s2_equalize.proofs.factors.factor_at.Goals as goal

-- the factor from the place that the code found
by_place : (factors : List Complex) (t k : ℕ) → k ≡ min ((t + 1) / 41) (length factors - 2)
    → over 41 (plus (scaled (41 - (t + 1) % 41) (complex_at factors k)) (scaled ((t + 1) % 41) (complex_at factors (k + 1)))) ≡ factor_at factors t
unfolding factor_at
by_place factors t k is = ap (λ n. over 41 (plus (scaled (41 - (t + 1) % 41) (complex_at factors n)) (scaled ((t + 1) % 41) (complex_at factors (n + 1))))) is

pub returns-clause-is : goal.returns-clause-is
returns-clause-is c =
    c.over.ensures ∙ (ap (over 41) (c.plus.ensures ∙ ap₂ plus c.scaled-near.ensures c.scaled.ensures) ∙ by_place c.args.factors.now c.args.stretch c.min-k.result c.min-k.ensures)

pub returns-clause-most : goal.returns-clause-most
returns-clause-most c =
    let j = (c.args.stretch + 1) % 41 in
    let k = c.min-k.result in
    let factors = c.args.factors.now in
    let a = complex_at factors k in
    let b = complex_at factors (k + 1) in
    let least = c.min-k.ensures in
    let here = c.requires.most k (omega arith) in
    let next = c.requires.most (k + 1) (omega arith) in
    let both = plus_within ((41 - j) * factor_bound) (j * factor_bound) (scaled (41 - j) a) (scaled j b) (scaled_within (41 - j) factor_bound a here) (scaled_within j factor_bound b next) in
    subst (IsWithin factor_bound) (sym (c.over.ensures ∙ ap (over 41) (c.plus.ensures ∙ ap₂ plus c.scaled-near.ensures c.scaled.ensures)))
    (over_within 41 factor_bound (plus (scaled (41 - j) a) (scaled j b)) (omega arith)
    (within_more ((41 - j) * factor_bound + j * factor_bound) (factor_bound * 41) (plus (scaled (41 - j) a) (scaled j b)) (omega arith) both))
