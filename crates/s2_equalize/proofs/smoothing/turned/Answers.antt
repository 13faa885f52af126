use Rattle.std.proofs.Common.{◌≡◌, ℕ, ◌-◌, ◌*◌, ◌^◌, ◌≤◌, ◌<◌, cond, List, sym, ap, subst, ◌∙◌, arith}
use Rattle.std.proofs.lemmas.Bool.{le-leb, lt-leb}
use Rattle.s2_equalize.specs.declared.complex.Complex.{Complex}
use Rattle.s2_equalize.specs.Bounds.{gain_bound, turned_bound}
use Rattle.s2_equalize.specs.Complex.{IsWithin, complex_at, times, times_conjugate}
use Rattle.s2_equalize.specs.Gains.{turned, turns}
use Rattle.s2_equalize.proofs.Sizes.{times_within, times_conjugate_within, within_more}
use Rattle.s2_equalize.proofs.smoothing.turned.Goals as goal

on : (gains : List Complex) (c : Complex) (k l : ℕ) → l ≤ k → times (complex_at gains l) (turns c (k - l)) ≡ turned gains c k l
unfolding turned
on gains c k l le =
    sym (ap (λ b. cond b (times (complex_at gains l) (turns c (k - l))) (times_conjugate (complex_at gains l) (turns c (l - k)))) (le-leb l k le))

back : (gains : List Complex) (c : Complex) (k l : ℕ) → k < l → times_conjugate (complex_at gains l) (turns c (l - k)) ≡ turned gains c k l
unfolding turned
back gains c k l lt =
    sym (ap (λ b. cond b (times (complex_at gains l) (turns c (k - l))) (times_conjugate (complex_at gains l) (turns c (l - k)))) (lt-leb l k lt))

pub returns-then-l-k-clause-is : goal.returns-then-l-k-clause-is
returns-then-l-k-clause-is c turn are =
    let near : c.args.k - c.args.l < 5 = omega arith in
    c.times.ensures
    ∙ (ap (times (complex_at c.args.gains.now c.args.l)) (are (c.args.k - c.args.l) near)
    ∙ on c.args.gains.now turn c.args.k c.args.l c.if-l-k.true)

pub returns-then-l-k-clause-most : goal.returns-then-l-k-clause-most
returns-then-l-k-clause-most c =
    let gain = complex_at c.args.gains.now c.args.l in
    let turn = complex_at c.args.turns.now (c.args.k - c.args.l) in
    subst (IsWithin turned_bound) (sym c.times.ensures)
    (within_more (2 * (gain_bound * 2 ^ 19)) turned_bound (times gain turn) (omega arith)
    (times_within gain_bound (2 ^ 19) gain turn (c.requires.gains c.args.l c.requires.inside) (c.requires.turns (c.args.k - c.args.l) (omega arith))))

pub returns-else-l-k-clause-is : goal.returns-else-l-k-clause-is
returns-else-l-k-clause-is c turn are =
    let near : c.args.l - c.args.k < 5 = omega arith in
    c.times_conjugate.ensures
    ∙ (ap (times_conjugate (complex_at c.args.gains.now c.args.l)) (are (c.args.l - c.args.k) near)
    ∙ back c.args.gains.now turn c.args.k c.args.l c.if-l-k.false)

pub returns-else-l-k-clause-most : goal.returns-else-l-k-clause-most
returns-else-l-k-clause-most c =
    let gain = complex_at c.args.gains.now c.args.l in
    let turn = complex_at c.args.turns.now (c.args.l - c.args.k) in
    subst (IsWithin turned_bound) (sym c.times_conjugate.ensures)
    (within_more (2 * (gain_bound * 2 ^ 19)) turned_bound (times_conjugate gain turn) (omega arith)
    (times_conjugate_within gain_bound (2 ^ 19) gain turn (c.requires.gains c.args.l c.requires.inside) (c.requires.turns (c.args.l - c.args.k) (omega arith))))
