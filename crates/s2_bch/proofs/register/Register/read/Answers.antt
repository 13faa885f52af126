use Rattle.std.proofs.Common.{arith, ◌≡◌, ◌∙◌, ◌+◌, ◌-◌, ◌*◌, ◌/◌, ◌^◌, ◌∷◌, ℕ, suc, ap, subst, get_or, length, drop, drop-cons, length-drop}
use Rattle.std.specs.Prelude.{false}
use Rattle.s2_bits.specs.Bits.{number}
use Rattle.s2_bch.specs.Registers.{value_of, Holds}
use Rattle.s2_bch.proofs.RegisterFacts.{holds_nothing, holds_below, drop_end}
use Rattle.s2_bch.proofs.register.Register.read.Goals as goal

pub loop-i-init : goal.loop-i-init
loop-i-init c =
    let n : length c.args.bits.now - 0 ≡ length c.args.bits.now = omega arith in
    holds_nothing _ _ (ap (λ k. drop k c.args.bits.now) n ∙ drop_end c.args.bits.now) (omega arith)

pub loop-i-preserved : goal.loop-i-preserved
loop-i-preserved c =
    let bits = c.args.bits.now in
    let j : ℕ = length bits - (c.loop-i.i + 1) in
    let next : suc j ≡ length bits - c.loop-i.i = omega arith in
    let place : length bits - 1 - c.loop-i.i ≡ j = omega arith in
    holds_below c.loop-i.register c.below-register.result (get_or bits j false) (drop j bits) (drop (length bits - c.loop-i.i) bits)
    (drop-cons bits j false (omega arith) ∙ ap (λ n. get_or bits j false ∷ drop n bits) next)
    (omega (arith, length-drop j bits))
    c.loop-i.invariant
    (c.below-register.ensures ∙ ap (λ n. number (get_or bits n false) * 2 ^ 191 + value_of c.loop-i.register / 2) place)

pub returns : goal.returns
returns c =
    let z : length c.args.bits.now - c.loop-i.i ≡ 0 = omega arith in
    subst (λ n. Holds c.loop-i.register (drop n c.args.bits.now)) z c.loop-i.invariant
