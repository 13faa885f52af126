use Rattle.std.proofs.Common.{arith, ◌∙◌, ap, sym}
use Rattle.std.specs.Prelude.{◌≡◌, ◌-◌}
use Rattle.s2_field.specs.Binary.{times}
use Rattle.s2_field.proofs.Steps.{norm_step, norm_start, inverse_end}
use Rattle.s2_field.proofs.gf16.arithmetic.invert.Goals as goal

pub loop-init : goal.loop-init
loop-init c = sym (norm_start 16 45 c.args.a)

pub loop-preserved : goal.loop-preserved
loop-preserved c =
    c.multiply-power.ensures
    ∙ ap (times 16 45 c.args.a) c.multiply.ensures
    ∙ norm_step 16 45 c.loop.counter c.args.a c.loop.power c.loop.invariant

pub returns : goal.returns
returns c =
    let e : c.loop.counter ≡ 16 - 1 = omega arith in
    c.multiply-2.ensures ∙ inverse_end 16 45 c.loop.counter c.args.a c.loop.power e c.loop.invariant
