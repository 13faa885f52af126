use Rattle.std.proofs.Common.{arith, ◌∙◌, ap, sym, subst, ◌<◌, ◌^◌}
use Rattle.std.specs.Prelude.{bit_xor, ◌≡◌, suc, ◌-◌, ◌+◌, ◌*◌, ◌%◌, ◌/◌}
use Rattle.s2_field.specs.Binary.{act, times}
use Rattle.s2_field.specs.Inverse.{times-below}
use Rattle.s2_field.specs.Gf14.{fourteen, low_fits}
use Rattle.s2_field.proofs.Steps.{product_step, product_end, product_start}
use Rattle.s2_field.proofs.gf14.arithmetic.multiply.Goals as goal

pub loop-init : goal.loop-init
loop-init c = record { value = product_start 14 43 c.args.a c.args.b; below = c.requires }

pub loop-preserved : goal.loop-preserved
loop-preserved c =
    let e : 14 - c.loop.counter ≡ suc (14 - (c.loop.counter + 1)) = omega arith in
    record {
      below = c.shift-shifted.ensures.below;
      value = ap (λ x. bit_xor (bit_xor c.loop.product (c.loop.rest % 2 * c.loop.shifted)) (act 14 43 (14 - (c.loop.counter + 1)) (c.loop.rest / 2) x))
          c.shift-shifted.ensures.value
          ∙ product_step 14 43 _ _ c.loop.product c.loop.rest c.loop.shifted _ e c.loop.invariant.value;
    }

pub returns : goal.returns
returns c =
    let e : 14 - c.loop.counter ≡ 0 = omega arith in
    let v : c.loop.product ≡ times 14 43 c.args.a c.args.b =
    product_end 14 43 _ c.loop.product c.loop.rest c.loop.shifted _ e c.loop.invariant.value in
    record { value = v; below = subst (λ x. x < 2 ^ 14) (sym v) (times-below 14 43 fourteen low_fits c.args.a c.args.b c.requires) }
