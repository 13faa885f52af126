use Rattle.std.proofs.Common.{◌≡◌, ◌≢◌, ◌<◌, cond, sym, ap, ap₂, subst, ◌∙◌, arith}
use Rattle.std.proofs.lemmas.Bool.{eq-eqb, ne_eqb}
use Rattle.s2_equalize.specs.declared.complex.Complex.{Complex}
use Rattle.s2_equalize.specs.Complex.{IsWithin, energy, over, root, scaled}
use Rattle.s2_equalize.specs.Gains.{no_turn, turn_of}
use Rattle.s2_equalize.proofs.Sizes.{turn_within}
use Rattle.s2_equalize.proofs.carrier.turn_of.Goals as goal

none : (a : Complex) → root (energy a) ≡ 0 → no_turn ≡ turn_of a
unfolding turn_of
none a e = sym (ap (λ b. cond b no_turn (over (root (energy a)) (scaled 32768 a))) (eq-eqb (root (energy a)) 0 e))

some : (a : Complex) → root (energy a) ≢ 0 → over (root (energy a)) (scaled 32768 a) ≡ turn_of a
unfolding turn_of
some a ne = sym (ap (λ b. cond b no_turn (over (root (energy a)) (scaled 32768 a))) (ne_eqb (root (energy a)) 0 ne))

pub over-requires-clause-few : goal.over-requires-clause-few
over-requires-clause-few c = let most = c.root-size.ensures.most in omega (arith, most)

pub returns-then-size-eq0-clause-is : goal.returns-then-size-eq0-clause-is
returns-then-size-eq0-clause-is c =
    let size : c.root-size.result ≡ root (energy c.args.a) = c.root-size.ensures.is ∙ ap root c.energy.ensures.is in
    let zero : root (energy c.args.a) ≡ 0 = omega (arith, size, c.if-size-eq0.true) in
    none c.args.a zero

pub returns-else-size-eq0-clause-is : goal.returns-else-size-eq0-clause-is
returns-else-size-eq0-clause-is c =
    let size : c.root-size.result ≡ root (energy c.args.a) = c.root-size.ensures.is ∙ ap root c.energy.ensures.is in
    let other : root (energy c.args.a) ≢ 0 = omega (arith, size, c.if-size-eq0.false) in
    c.over.ensures ∙ (ap₂ over size c.scaled.ensures ∙ some c.args.a other)

pub returns-else-size-eq0-clause-most : goal.returns-else-size-eq0-clause-most
returns-else-size-eq0-clause-most c =
    let size : c.root-size.result ≡ root (energy c.args.a) = c.root-size.ensures.is ∙ ap root c.energy.ensures.is in
    let more : 0 < root (energy c.args.a) = omega (arith, size, c.if-size-eq0.false) in
    subst (IsWithin 32768) (sym (c.over.ensures ∙ ap₂ over size c.scaled.ensures)) (turn_within c.args.a more)
