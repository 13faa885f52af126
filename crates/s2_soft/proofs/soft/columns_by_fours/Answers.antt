use Rattle.std.proofs.Common.{◌≡◌, ℕ, ◌+◌, ◌*◌, ◌<◌, ◌∙◌, ap}
use Rattle.s2_mode.specs.Symbols.{symbol_at}
use Rattle.s2_soft.specs.Soft.{quantized}
use Rattle.s2_soft.specs.Closed.{first_difference, second_difference, third_difference}
use Rattle.s2_bits.specs.Lanes.{lane}
use Rattle.s2_soft.specs.Lanes.{number}
use Rattle.s2_soft.proofs.Writes.{set_block}
use Rattle.s2_soft.proofs.soft.columns_by_fours.Goals as goal

pub loop-block-preserved : goal.loop-block-preserved
loop-block-preserved c =
    let payload = c.args.payload.now in
    let block = c.loop-block.block in
    let d = c.args.divisor in
    let known = c.shift-shift.ensures.known in
    let power = c.shift-shift.ensures.power in
    let i : (k : ℕ) → k < 4 → number (lane c.numbers-i.result k) ≡ (symbol_at payload (4 * block + k)).i = λ k lt. c.numbers-i.ensures.is k lt ∙ c.pairs-pairs.ensures.i k lt in
    let q : (k : ℕ) → k < 4 → number (lane c.upper_numbers-q.result k) ≡ (symbol_at payload (4 * block + k)).q = λ k lt. c.upper_numbers-q.ensures.is k lt ∙ c.pairs-pairs.ensures.q k lt in
    record {
      first = set_block c.loop-block.first c.store.new.soft block (λ k. quantized d (first_difference (symbol_at payload k).i (symbol_at payload k).q)) c.loop-block.invariant.first c.store.ensures.before
          (λ k lt. c.store.ensures.here k lt ∙ (c.quantized.ensures d known power k lt ∙ ap (quantized d) (c.first_differences.ensures k lt ∙ (λ t. first_difference (i k lt t) (q k lt t)))));
      second = set_block c.loop-block.second c.store-in-loop-block.new.soft block (λ k. quantized d (second_difference (symbol_at payload k).i (symbol_at payload k).q)) c.loop-block.invariant.second c.store-in-loop-block.ensures.before
          (λ k lt. c.store-in-loop-block.ensures.here k lt ∙ (c.quantized-in-loop-block.ensures d known power k lt ∙ ap (quantized d) (c.second_differences.ensures k lt ∙ (λ t. second_difference (i k lt t) (q k lt t)))));
      third = set_block c.loop-block.third c.store-in-loop-block-2.new.soft block (λ k. quantized d (third_difference (symbol_at payload k).i (symbol_at payload k).q)) c.loop-block.invariant.third c.store-in-loop-block-2.ensures.before
          (λ k lt. c.store-in-loop-block-2.ensures.here k lt ∙ (c.quantized-in-loop-block-2.ensures d known power k lt ∙ ap (quantized d) (c.third_differences.ensures k lt ∙ (λ t. third_difference (i k lt t) (q k lt t)))));
    }
