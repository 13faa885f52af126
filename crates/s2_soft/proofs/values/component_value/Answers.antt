use Rattle.std.proofs.Common.{rules, ◌≡◌, pos, ◌*ℤ◌, arith, w16, w32, ap, ◌∙◌}
use Rattle.std.proofs.lemmas.Int.{ints, to_z-of_z}
use Rattle.s2_soft.specs.Soft.{quantized}
use Rattle.s2_soft.proofs.values.component_value.Goals as goal
use mir.Val.{SFits}

pub returns : goal.returns
returns c =
    let small : SFits w16 c.args.component = search rules in
    let fits : SFits w16 c.quantized.result = search rules in
    let value : c.from.result ≡ c.args.component = c.from.ensures ∙ to_z-of_z w16 c.args.component small in
    let wide : SFits w32 c.from.result = omega (arith, ints, value, small) in
    let product : SFits w32 (pos 2800 *ℤ c.from.result) = omega (arith, ints, value, small) in
    let is = simp to_z-of_z at c.quantized.ensures in
    to_z-of_z w16 c.quantized.result fits ∙ (is ∙ ap (λ z. quantized c.args.divisor (pos 2800 *ℤ z)) value)
