use Rattle.std.proofs.Common.{arith, ◌≡◌, ◌∙◌, ◌+◌, ◌-◌, suc, sym, ap}
use Rattle.s2_bch.specs.Division.{steps}
use Rattle.s2_bch.proofs.DivisionFacts.{no_steps, more_steps}
use Rattle.s2_bch.specs.Registers.{value_of}
use Rattle.s2_bch.proofs.divider.eight_steps.Goals as goal

pub loop-init : goal.loop-init
loop-init c = ap (steps 192 (value_of c.args.tail) 8) (omega arith)

pub loop-preserved : goal.loop-preserved
loop-preserved c =
    let left = 8 - (c.loop.counter + 1) in
    let e : suc left ≡ 8 - c.loop.counter = omega arith in
    ap (steps 192 (value_of c.args.tail) left) c.step-register.ensures
    ∙ sym (more_steps 192 (value_of c.args.tail) left (value_of c.loop.register))
    ∙ ap (λ n. steps 192 (value_of c.args.tail) n (value_of c.loop.register)) e
    ∙ c.loop.invariant

pub returns : goal.returns
returns c =
    let e : 0 ≡ 8 - c.loop.counter = omega arith in
    sym (no_steps 192 (value_of c.args.tail) (value_of c.loop.register))
    ∙ ap (λ n. steps 192 (value_of c.args.tail) n (value_of c.loop.register)) e
    ∙ c.loop.invariant
