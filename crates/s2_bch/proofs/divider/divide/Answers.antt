use Rattle.std.proofs.Common.{arith, ◌≡◌, ◌∙◌, ◌+◌, ◌*◌, ◌/◌, ap, sym, subst, length, take}
use Rattle.std.specs.Prelude.{false, replicate}
use Rattle.s2_bch.specs.Words.{register_after}
use Rattle.s2_bch.specs.Registers.{Holds}
use Rattle.s2_bch.proofs.MessageFacts.{byte-number, holds_more, take_end}
use Rattle.s2_bch.proofs.divider.divide.Goals as goal

pub loop-byte-init : goal.loop-byte-init
loop-byte-init c t h =
    let n = length c.args.message.now / 64 in
    let e : 64 * n ≡ 8 * (8 * n) = omega arith in
    subst (λ k. Holds c.divide_blocks-register.result (register_after t (replicate (length t) false) (take k c.args.message.now))) e
    (c.divide_blocks-register.ensures t h)

pub loop-byte-preserved : goal.loop-byte-preserved
loop-byte-preserved c t h =
    let next : 8 * c.loop-byte.byte + 8 ≡ 8 * (c.loop-byte.byte + 1) = omega arith in
    subst (λ n. Holds c.feed-register.result (register_after t (replicate (length t) false) (take n c.args.message.now))) next
    (holds_more 8 t c.args.table.now c.args.message.now (8 * c.loop-byte.byte) c.loop-byte.register c.feed-register.result c.byte_at.result h
    (omega arith) (omega arith) (c.loop-byte.invariant t h)
    (c.byte_at.ensures ∙ byte-number c.args.message.now (8 * c.loop-byte.byte) (omega arith)) (c.feed-register.ensures t h))

pub returns : goal.returns
returns c t h =
    let e : length c.args.message.now ≡ 8 * c.loop-byte.byte = omega arith in
    subst (λ w. Holds c.loop-byte.register (register_after t (replicate (length t) false) w))
    (ap (λ n. take n c.args.message.now) (sym e) ∙ take_end c.args.message.now)
    (c.loop-byte.invariant t h)
