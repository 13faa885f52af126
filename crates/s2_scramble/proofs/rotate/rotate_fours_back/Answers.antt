use Rattle.std.proofs.Common.{ℕ, ◌+◌, ◌-◌, ◌*◌, ◌%◌, ◌<◌, slice_index, [], ◌∷◌, ◌∙◌, arith}
use Rattle.s2_mode.specs.declared.symbols.Symbol.{Symbol}
use Rattle.s2_mode.specs.Symbols.{symbol_at}
use Rattle.s2_scramble.specs.Rotations.{rotated_back}
use Rattle.s2_scramble.proofs.Quarters.{rotated-back}
use Rattle.s2_mode.proofs.Fours.{four_more}
use Rattle.s2_scramble.proofs.rotate.rotate_fours_back.Goals as goal

pub loop-block-preserved : goal.loop-block-preserved
loop-block-preserved c =
    let at = 4 * c.loop-block.block in
    let sent : ℕ → Symbol = λ k. symbol_at c.args.symbols.now k in
    let s0 = c.requires.small at (omega arith) in
    let s1 = c.requires.small (at + 1) (omega arith) in
    let s2 = c.requires.small (at + 2) (omega arith) in
    let s3 = c.requires.small (at + 3) (omega arith) in
    let few : (n : ℕ) → (4 - n) % 4 < 4 = λ n. omega arith in
    let put = c.put_four.ensures in
    let is = c.rotate_four-four.ensures _ _ _ _ (few _) (few _) (few _) (few _) (c.back.ensures _ _ _ _ s0 s1 s2 s3 c.quarters_of.ensures)
    ∙ (λ t. rotated-back _ (sent at) s0 t ∷ rotated-back _ (sent (at + 1)) s1 t ∷ rotated-back _ (sent (at + 2)) s2 t ∷ rotated-back _ (sent (at + 3)) s3 t ∷ []) in
    λ j lt. four_more at (λ k. rotated_back (slice_index c.args.quarters.now k) (symbol_at c.args.symbols.now k)) c.loop-block.out c.put_four.new.out c.rotate_four-four.result
    c.loop-block.invariant put.before put.a put.b put.c put.d is j (omega arith)
