use Rattle.std.proofs.Common.{arith, ◌≢◌, ◌<◌, ℕ, suc, sym, subst, get_or, get_or-set_other, get_or-set_same, below_more, length, drop, drop-cons, add-one}
use Rattle.std.specs.Prelude.{false}
use Rattle.std.proofs.lemmas.List.{ext_get_or}
use Rattle.s2_bch.specs.Registers.{Holds}
use Rattle.s2_bch.proofs.RegisterFacts.{holds_next, holds_top}
use Rattle.s2_bch.proofs.register.Register.write.Goals as goal

pub loop-bit-init : goal.loop-bit-init
loop-bit-init c w l h = (h, λ k hk. absurd (omega arith))

pub loop-bit-preserved : goal.loop-bit-preserved
loop-bit-preserved c w l h =
    let i : ℕ = c.loop-bit.bit-index in
    let v = c.loop-bit.invariant w l h in
    let here : i < length w = omega arith in
    let lt : i < length c.loop-bit.bits = omega arith in
    let e = drop-cons w i false here in (
      subst (λ n. Holds c.doubled-rest.result (drop n w)) (sym (add-one i))
          (holds_next c.loop-bit.rest c.doubled-rest.result (get_or w i false) (drop i w) (drop (suc i) w) e v.0 c.doubled-rest.ensures),
      below_more _ _
          (λ k hk. let ne : k ≢ i = omega arith in rw get_or-set_other (v.1 k hk))
          (rw get_or-set_same (holds_top c.loop-bit.rest (get_or w i false) c.top.result (drop i w) (drop (suc i) w) e v.0 c.top.ensures)),
    )

pub returns : goal.returns
returns c w l h =
    ext_get_or false _ _ (omega arith) (λ k hk. (c.loop-bit.invariant w l h).1 k (omega arith))
