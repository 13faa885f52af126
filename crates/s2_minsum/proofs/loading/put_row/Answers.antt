use Rattle.std.proofs.Common.{◌≡◌, ◌*◌, get_or, pos, ap, ◌∙◌, arith}
use Rattle.s2_minsum.proofs.loading.put_row.Goals as goal

pub put_near-requires-clause-within : goal.put_near-requires-clause-within
put_near-requires-clause-within c = λ k low.
    let one : k * c.args.step ≡ k * 1 = ap (λ s. k * s) c.if-step-eq1.true in
    omega (arith, c.requires.within k low, one)

pub returns-then-step-eq1 : goal.returns-then-step-eq1
returns-then-step-eq1 c = λ k lt.
    let one : k * c.args.step ≡ k * 1 = ap (λ s. k * s) c.if-step-eq1.true in
    c.put_near.ensures k lt ∙ ap (λ x. get_or c.args.soft.now x (pos 0)) (omega (arith, one))
