use Rattle.std.proofs.Common.{ℕ, ◌+◌, ◌*◌, ◌%◌, ◌^◌, ◌<◌, min, get_or, pos, ap, ◌∙◌, arith}
use Rattle.s2_bits.specs.Lanes.{lane}
use Rattle.s2_bits.specs.Lanes32.{plus32}
use Rattle.s2_check.proofs.LaneTallies.{LaneIs, lane_is, four_more}
use Rattle.s2_check.proofs.lane_tally.tally_of_vectors.Goals as goal

pub loop-block-preserved : goal.loop-block-preserved
loop-block-preserved c =
    let xs = c.args.shares.now in
    let b = c.loop-block.block in
    let inv = c.loop-block.invariant in
    let s = λ (k : ℕ). lane c.loop-block.sums k in
    let n = λ (k : ℕ). lane c.loop-block.counts k in
    let z = λ (k : ℕ). lane c.loop-block.magnitudes k in
    let s' = λ (k : ℕ). lane c.sums_with-sums.result k in
    let n' = λ (k : ℕ). lane c.plus-counts.result k in
    let z' = λ (k : ℕ). lane c.least-magnitudes.result k in
    let lanes : (k : ℕ) → k < 4 → LaneIs (s k) (s' k) (n k) (n' k) (z k) (z' k) (get_or xs (4 * b + k) (pos 0)) =
    λ k lt. lane_is (s k) (s' k) (n k) (n' k) (z k) (z' k) b (lane c.words_from-words.result k) (get_or xs (4 * b + k) (pos 0))
    (c.words_from-words.ensures.fit k lt) (c.words_from-words.ensures.words.each k lt) (omega arith) (inv.sums_few k lt) (inv.counts_few k lt)
    (c.sums_with-sums.ensures.each k lt ∙ ap (λ v. (s k + v) % 2 ^ 64) (c.negatives.ensures.each k lt))
    (c.plus-counts.ensures.each k lt ∙ ap (λ v. plus32 (n k) v) (c.signs.ensures.each k lt))
    (c.least-magnitudes.ensures.each k lt ∙ ap (λ v. min (z k) v) (c.magnitudes_of.ensures.each k lt)) in
    record {
      sums_long = c.sums_with-sums.ensures.long;
      counts_long = c.plus-counts.ensures.long;
      magnitudes_long = c.least-magnitudes.ensures.long;
      sums_few = λ k lt. let few = (lanes k lt).few in omega (arith, few, inv.sums_few k lt);
      counts_few = λ k lt. let one = (lanes k lt).one in omega (arith, one, inv.counts_few k lt);
      tally = four_more s s' n n' z z' b xs (omega arith) lanes inv.tally;
    }
