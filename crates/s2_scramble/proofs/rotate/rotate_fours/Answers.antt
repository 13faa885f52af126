use Rattle.std.proofs.Common.{◌+◌, ◌*◌, slice_index, arith}
use Rattle.s2_mode.specs.Symbols.{symbol_at}
use Rattle.s2_scramble.specs.Rotations.{rotated}
use Rattle.s2_mode.proofs.Fours.{four_more}
use Rattle.s2_scramble.proofs.rotate.rotate_fours.Goals as goal

pub loop-block-preserved : goal.loop-block-preserved
loop-block-preserved c =
    let at = 4 * c.loop-block.block in
    let small = c.requires.small in
    let put = c.put_four.ensures in
    let is = c.rotate_four-four.ensures _ _ _ _ (small at (omega arith)) (small (at + 1) (omega arith)) (small (at + 2) (omega arith)) (small (at + 3) (omega arith)) c.quarters_of.ensures in
    λ j lt. four_more at (λ k. rotated (slice_index c.args.quarters.now k) (symbol_at c.args.symbols.now k)) c.loop-block.out c.put_four.new.out c.rotate_four-four.result
    c.loop-block.invariant put.before put.a put.b put.c put.d is j (omega arith)
