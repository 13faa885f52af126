use Rattle.std.proofs.Common.{◌≡◌, ◌+◌, ◌-◌, ◌*◌, ◌<◌, ◌≤◌, ◌∙◌, sym, length, arith, length-take, length-drop, pos}
use Rattle.s2_mode.specs.Symbols.{symbol, symbol_at}
use Rattle.s2_scramble.specs.Gold.{quarter_turns}
use Rattle.s2_scramble.specs.Rotations.{rotated_back}
use Rattle.s2_plframe.specs.Inside.{place_behind}
use Rattle.s2_scramble.proofs.Pieces.{get_or-mid_of}
use Rattle.s2_plframe.proofs.Blocks.{written_piece}
use Rattle.s2_plframe.proofs.Payloads.{in_block, past_blocks}
use Rattle.s2_plframe.proofs.receive.payload.read_slots.Goals as goal
use borrow.Rule.Slice.PartMut.{mid_of}

pub loop-block-preserved : goal.loop-block-preserved
loop-block-preserved c =
    let block = c.loop-block.block in
    let blocks = c.args.blocks in
    let slots = c.args.slots.now in
    let gold = c.args.gold.now in
    let at = 1476 * block in
    let to = 1440 * block in
    let m = at + 1440 - at in
    let n = to + 1440 - to in
    let whole : n ≡ 1440 = omega arith in
    let fits : to + n ≤ length c.loop-block.out = omega arith in
    let part : length (mid_of to n c.loop-block.out) ≡ n = simp (length-take, length-drop) (omega arith) in
    λ s lt. written_piece to n (λ v. rotated_back (quarter_turns gold (place_behind blocks v)) (symbol_at slots (place_behind blocks v))) c.loop-block.out c.derotate_into.new.out
    fits (c.derotate_into.auto.out ∙ part) c.loop-block.invariant
    (λ k l.
    let small : k < 1440 = omega arith in
    let inside : block < blocks = omega arith in
    let read : k < m = omega arith in
    let place = in_block blocks block k inside small in
    c.derotate_into.ensures k (omega arith)
    ∙ (λ t. rotated_back (quarter_turns gold (sym place t)) ((get_or-mid_of (symbol (pos 0) (pos 0)) at m slots k read ∙ (λ r. symbol_at slots (sym place r))) t)))
    s (omega arith)

pub returns : goal.returns
returns c =
    let blocks = c.args.blocks in
    let slots = c.args.slots.now in
    let gold = c.args.gold.now in
    let at = 1476 * blocks in
    let to = 1440 * blocks in
    let m = length slots - at in
    let n = length c.loop-block.out - to in
    let same : length c.loop-block.out ≡ length c.args.out.now = omega arith in
    let fits : to + n ≤ length c.loop-block.out = omega arith in
    let part : length (mid_of to n c.loop-block.out) ≡ n = simp (length-take, length-drop) (omega arith) in
    λ s lt. written_piece to n (λ v. rotated_back (quarter_turns gold (place_behind blocks v)) (symbol_at slots (place_behind blocks v))) c.loop-block.out c.derotate_into-2.new.out
    fits (c.derotate_into-2.auto.out ∙ part) (λ k l. c.loop-block.invariant k (omega arith))
    (λ k l.
    let read : k < m = omega arith in
    let past : to ≤ to + k = omega arith in
    let moved : to + k + 36 * blocks ≡ at + k = omega arith in
    let place = past_blocks blocks (to + k) past ∙ moved in
    c.derotate_into-2.ensures k (omega arith)
    ∙ (λ t. rotated_back (quarter_turns gold (sym place t)) ((get_or-mid_of (symbol (pos 0) (pos 0)) at m slots k read ∙ (λ r. symbol_at slots (sym place r))) t)))
    s (omega arith)
