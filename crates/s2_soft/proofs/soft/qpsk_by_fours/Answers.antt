use Rattle.std.proofs.Common.{◌≡◌, ◌<◌, ◌+◌, ◌-◌, ◌*◌, ◌∙◌, ap, sym, arith, inl, inr}
use Rattle.std.proofs.lemmas.Bool.{cases_lt}
use Rattle.s2_soft.specs.Soft.{quantized, value_at}
use Rattle.s2_soft.specs.Closed.{component_difference}
use Rattle.s2_soft.specs.Lanes.{component_at}
use Rattle.s2_soft.proofs.soft.qpsk_by_fours.Goals as goal

pub loop-block-preserved : goal.loop-block-preserved
loop-block-preserved c = λ b lt.
    let at = 8 * c.loop-block.block in
    let payload = c.args.payload.now in
    elim (cases_lt b at) [
      | inl below ↦ c.store.ensures.before b below ∙ c.loop-block.invariant b below
      | inr le ↦
          let k = b - at in
          let low : k < 8 = omega (arith, lt) in
          let here : at + k ≡ b = omega arith in
          let place : 2 * (4 * c.loop-block.block) + k ≡ b = omega arith in
          ap (value_at c.store.new.soft) (sym here)
          ∙ (c.store.ensures.here k low
          ∙ (c.component_values-values.ensures c.args.divisor c.factor-factor.ensures.known c.factor-factor.ensures.is k low
          ∙ ap (λ z. quantized c.args.divisor (component_difference z)) (c.components.ensures k low ∙ ap (component_at payload) place)))
    ]
