use Rattle.std.proofs.Common.{arith, ◌∙◌, ap, sym}
use Rattle.std.specs.Prelude.{◌≡◌, ◌-◌}
use Rattle.s2_field.specs.Binary.{times}
use Rattle.s2_field.proofs.Steps.{norm_step, norm_start, inverse_end}
use Rattle.s2_field.proofs.gf14.arithmetic.invert.Goals as goal

pub loop-init : goal.loop-init
loop-init c = record { value = sym (norm_start 14 43 c.args.a); below = omega arith }

pub loop-preserved : goal.loop-preserved
loop-preserved c = record {
  value = c.multiply-power.ensures.value ∙ ap (times 14 43 c.args.a) c.multiply.ensures.value
      ∙ norm_step 14 43 c.loop.counter c.args.a c.loop.power c.loop.invariant.value;
  below = c.multiply-power.ensures.below;
}

pub returns : goal.returns
returns c =
    let e : c.loop.counter ≡ 14 - 1 = omega arith in
    record {
      value = c.multiply-2.ensures.value ∙ inverse_end 14 43 c.loop.counter c.args.a c.loop.power e c.loop.invariant.value;
      below = c.multiply-2.ensures.below;
    }
