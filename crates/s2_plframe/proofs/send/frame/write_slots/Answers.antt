use Rattle.std.proofs.Common.{◌≡◌, ◌+◌, ◌-◌, ◌*◌, ◌≤◌, ◌∙◌, ap, subst, length, arith, length-take, length-drop, pos}
use Rattle.s2_mode.specs.Symbols.{symbol, symbol_at}
use Rattle.s2_scramble.specs.Gold.{quarter_turns}
use Rattle.s2_scramble.specs.Rotations.{rotated}
use Rattle.s2_plframe.specs.Frame.{spaced_symbol}
use Rattle.s2_bits.proofs.RowParts.{put_mid_below, put_mid_at}
use Rattle.s2_plframe.proofs.Blocks.{written_piece, whole_block, other_slots}
use Rattle.s2_plframe.proofs.send.frame.write_slots.Goals as goal
use borrow.Rule.Slice.PartMut.{put_mid, mid_of}

pub loop-block-preserved : goal.loop-block-preserved
loop-block-preserved c =
    let block = c.loop-block.block in
    let payload = c.args.payload.now in
    let gold = c.args.gold.now in
    let at = 1476 * block in
    let n = at + 1476 - at in
    let m = 1440 * block + 1440 - 1440 * block in
    let whole : m ≡ 1440 = omega arith in
    let fits : at + n ≤ length c.loop-block.out = omega arith in
    let part : length (mid_of at n c.loop-block.out) ≡ n = simp (length-take, length-drop) (omega arith) in
    λ u lt. written_piece at n (λ v. rotated (quarter_turns gold v) (spaced_symbol payload v)) c.loop-block.out c.write_block.new.out
    fits (c.write_block.auto.out ∙ part) c.loop-block.invariant
    (λ k l. c.write_block.ensures k (omega arith)
    ∙ ap (rotated (quarter_turns gold (at + k))) (whole_block block m k payload whole (omega arith)))
    u (omega arith)

pub returns-clause-blocks : goal.returns-clause-blocks
returns-clause-blocks c =
    let at = 1476 * c.args.blocks in
    let n = length c.loop-block.out - at in
    let same : length c.loop-block.out ≡ length c.args.out.now = omega arith in
    let fits : at + n ≤ length c.loop-block.out = omega arith in
    let part : length (mid_of at n c.loop-block.out) ≡ n = simp (length-take, length-drop) (omega arith) in
    λ u lt. put_mid_below (symbol (pos 0) (pos 0)) at n c.loop-block.out c.turn_into.new.out fits (c.turn_into.auto.out ∙ part) u lt
    ∙ c.loop-block.invariant u (omega arith)

pub returns-clause-rest : goal.returns-clause-rest
returns-clause-rest c =
    let blocks = c.args.blocks in
    let payload = c.args.payload.now in
    let gold = c.args.gold.now in
    let at = 1476 * blocks in
    let n = length c.loop-block.out - at in
    let m = length payload - 1440 * blocks in
    let same : length c.loop-block.out ≡ length c.args.out.now = omega arith in
    let fits : at + n ≤ length c.loop-block.out = omega arith in
    let part : length (mid_of at n c.loop-block.out) ≡ n = simp (length-take, length-drop) (omega arith) in
    let rest : length (mid_of (1440 * blocks) m payload) ≡ m = simp (length-take, length-drop) (omega arith) in
    λ u past lt.
    let e : at + (u - at) ≡ u = omega arith in
    subst (λ v. symbol_at (put_mid at n c.loop-block.out c.turn_into.new.out) v ≡ rotated (quarter_turns gold v) (symbol_at payload (u - 36 * blocks))) e
    (put_mid_at (symbol (pos 0) (pos 0)) at n c.loop-block.out c.turn_into.new.out fits (c.turn_into.auto.out ∙ part) (u - at) (omega arith)
    ∙ (c.turn_into.ensures (u - at) (omega arith)
    ∙ ap (rotated (quarter_turns gold (at + (u - at)))) (other_slots blocks m u payload past (omega arith))))
