use Rattle.std.proofs.Common.{arith, ◌∙◌, ap, ◌≡◌, ◌/◌, ◌%◌}
use Rattle.s2_field.specs.Polynomials.{pow}
use Rattle.s2_field.proofs.Powers.{pow_odd, pow_even, one-mul}
use Rattle.s2_field.proofs.field.pow.Goals as goal
use Rattle.s2_field.proofs.field.pow.Goals.{then-rest-eq1, else-rest-eq1}

pub loop-rest-init : goal.loop-rest-init
loop-rest-init g c =
    let f = g.F.Field in
    ap (λ v. f.field.product v (pow f.field c.args.x c.args.exponent)) c.one-power.ensures
    ∙ one-mul f.field g.met.F.Field.laws _

pub loop-rest-preserved : goal.loop-rest-preserved
loop-rest-preserved g c =
    let f = g.F.Field in
    ap (λ v. f.field.product c.if-rest-eq1.power (pow f.field v (c.loop-rest.rest / 2))) c.mul-square.ensures
    ∙ elim c.if-rest-eq1.branch [
      | then-rest-eq1 w ↦ (
          ap (λ v. f.field.product v (pow f.field (f.field.product c.loop-rest.square c.loop-rest.square) (c.loop-rest.rest / 2)))
          (w.power-is ∙ w.mul-power.ensures)
          ∙ pow_odd f.field g.met.F.Field.laws _ _ c.loop-rest.rest w.if-rest-eq1.true)
      | else-rest-eq1 w ↦ (
          let even : c.loop-rest.rest % 2 ≡ 0 = omega (arith, w.if-rest-eq1.false) in
          ap (λ v. f.field.product v (pow f.field (f.field.product c.loop-rest.square c.loop-rest.square) (c.loop-rest.rest / 2)))
          w.power-is
          ∙ pow_even f.field g.met.F.Field.laws _ _ c.loop-rest.rest even)
    ]
    ∙ c.loop-rest.invariant
