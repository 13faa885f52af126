use Rattle.std.proofs.Common.{arith, ◌≡◌, ◌+◌, ◌*◌, ◌/◌, subst, length, take}
use Rattle.std.specs.Prelude.{false, replicate}
use Rattle.s2_bch.specs.Words.{register_after}
use Rattle.s2_bch.specs.Registers.{Holds}
use Rattle.s2_bch.proofs.MessageFacts.{holds_zeros, holds_more}
use Rattle.s2_bch.proofs.divider.divide_blocks.Goals as goal

pub loop-block-init : goal.loop-block-init
loop-block-init c t h = holds_zeros _ t h.fits (omega arith)

pub loop-block-preserved : goal.loop-block-preserved
loop-block-preserved c t h =
    let next : 64 * c.loop-block.block + 64 ≡ 64 * (c.loop-block.block + 1) = omega arith in
    subst (λ n. Holds c.feed_block-register.result (register_after t (replicate (length t) false) (take n c.args.message.now))) next
    (holds_more 64 t c.args.table.now c.args.message.now (64 * c.loop-block.block) c.loop-block.register c.feed_block-register.result c.block_at.result h
    (omega arith) (omega arith) (c.loop-block.invariant t h) c.block_at.ensures (c.feed_block-register.ensures t h))

pub returns : goal.returns
returns c t h =
    let e : c.loop-block.block ≡ length c.args.message.now / 64 = omega arith in
    subst (λ n. Holds c.loop-block.register (register_after t (replicate (length t) false) (take (64 * n) c.args.message.now))) e
    (c.loop-block.invariant t h)
