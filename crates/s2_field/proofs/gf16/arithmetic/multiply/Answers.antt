use Rattle.std.proofs.Common.{arith, ◌∙◌, ap}
use Rattle.std.specs.Prelude.{bit_xor, ◌≡◌, suc, ◌-◌, ◌+◌, ◌*◌, ◌%◌, ◌/◌}
use Rattle.s2_field.specs.Binary.{act}
use Rattle.s2_field.proofs.Steps.{product_step, product_end, product_start}
use Rattle.s2_field.proofs.gf16.arithmetic.multiply.Goals as goal

pub loop-init : goal.loop-init
loop-init c = product_start 16 45 c.args.a c.args.b

pub loop-preserved : goal.loop-preserved
loop-preserved c =
    let e : 16 - c.loop.counter ≡ suc (16 - (c.loop.counter + 1)) = omega arith in
    ap (λ x. bit_xor (bit_xor c.loop.product (c.loop.rest % 2 * c.loop.shifted)) (act 16 45 (16 - (c.loop.counter + 1)) (c.loop.rest / 2) x))
    c.shift-shifted.ensures
    ∙ product_step 16 45 _ _ c.loop.product c.loop.rest c.loop.shifted _ e c.loop.invariant

pub returns : goal.returns
returns c =
    let e : 16 - c.loop.counter ≡ 0 = omega arith in
    product_end 16 45 _ c.loop.product c.loop.rest c.loop.shifted _ e c.loop.invariant
