use Rattle.std.proofs.Common.{◌≡◌, ◌+◌, ◌-◌, ◌*◌, ◌≤◌, ◌∙◌, ap, length, arith, length-take, length-drop, pos}
use Rattle.std.proofs.lemmas.List.{get_or-replicate}
use Rattle.s2_mode.specs.Symbols.{symbol}
use Rattle.s2_scramble.specs.Gold.{quarter_turns}
use Rattle.s2_scramble.specs.Rotations.{rotated}
use Rattle.s2_plframe.specs.Dummy.{carrier}
use Rattle.s2_plframe.proofs.Blocks.{written_piece}
use Rattle.s2_plframe.proofs.send.dummy.write_carrier.Goals as goal
use borrow.Rule.Slice.PartMut.{mid_of}

pub loop-block-preserved : goal.loop-block-preserved
loop-block-preserved c =
    let gold = c.args.gold.now in
    let at = 90 * c.loop-block.block in
    let n = at + 90 - at in
    let fits : at + n ≤ length c.loop-block.out = omega arith in
    let part : length (mid_of at n c.loop-block.out) ≡ n = simp (length-take, length-drop) (omega arith) in
    λ u lt. written_piece at n (λ v. rotated (quarter_turns gold v) carrier) c.loop-block.out c.turn_into.new.out
    fits (c.turn_into.auto.out ∙ part) c.loop-block.invariant
    (λ k l. c.turn_into.ensures k (omega arith)
    ∙ ap (rotated (quarter_turns gold (at + k))) (get_or-replicate 90 k carrier (symbol (pos 0) (pos 0)) (omega arith)))
    u (omega arith)
