use Rattle.std.proofs.Common.{◌≡◌, ◌+◌, ◌*◌, ◌^◌, ◌≤◌, ◌<◌, length, true, sym, ap, subst, ◌∙◌, arith}
use Rattle.s2_mode.specs.Mode.{slots_of, pilot_blocks_of, symbols_in}
use Rattle.s2_message.specs.Correlation.{IsWithin, correlation_at, plus}
use Rattle.s2_message.specs.Errors.{is_known}
use Rattle.s2_message.proofs.CorrelationSums.{chosen, summed_is, summed_from_is, plus_within, within_more}
use Rattle.s2_message.proofs.CorrelationPlaces.{header_sum, block_sum, known_sum}
use Rattle.s2_message.proofs.Places.{blocks_fit, has_pilots}
use Rattle.s2_message.proofs.correlations.known_correlation.Goals as goal

pub piece_correlation-sum-requires : goal.piece_correlation-sum-requires
piece_correlation-sum-requires c =
    let whole : symbols_in c.args.mode ≡ 90 + 90 * slots_of c.args.mode + 36 * pilot_blocks_of c.args.mode = c.pilot_blocks-blocks.ensures.sizes.symbols in
    let received : length c.args.received.now ≡ symbols_in c.args.mode = c.requires.received in
    let sent : length c.args.sent.now ≡ symbols_in c.args.mode = c.requires.sent in
    record { received = omega (arith, whole, received); sent = omega (arith, whole, sent); few = omega arith }

pub loop-block-init : goal.loop-block-init
loop-block-init c =
    let m = c.args.mode in
    let f = correlation_at c.args.received.now c.args.sent.now in
    let blocks : c.pilot_blocks-blocks.result ≡ pilot_blocks_of m = c.pilot_blocks-blocks.ensures.is in
    let fit : 16 * pilot_blocks_of m ≤ slots_of m = blocks_fit m c.pilot_blocks-blocks.ensures.valid in
    let whole : symbols_in m ≡ 90 + 90 * slots_of m + 36 * pilot_blocks_of m = c.pilot_blocks-blocks.ensures.sizes.symbols in
    let received : length c.args.received.now ≡ symbols_in m = c.requires.received in
    record {
      is = c.piece_correlation-sum.ensures.is ∙ (summed_is f 90 ∙ sym (header_sum m f));
      most = c.piece_correlation-sum.ensures.most;
      fit = omega (arith, blocks, fit);
      few = c.pilot_blocks-blocks.ensures.sizes.slots_most;
      long = omega (arith, blocks, whole, received);
      same = c.requires.sent ∙ sym received;
    }

pub plus-sum-requires : goal.plus-sum-requires
plus-sum-requires c =
    let before = c.loop-block.invariant in
    record {
      a = within_more (90 + 36 * c.loop-block.block) (2 ^ 20) c.loop-block.sum (omega (arith, c.loop-block-test.true, before.fit, before.few)) before.most;
      b = within_more 36 (2 ^ 20) c.piece_correlation.result (omega arith) c.piece_correlation.ensures.most;
    }

pub loop-block-preserved : goal.loop-block-preserved
loop-block-preserved c =
    let m = c.args.mode in
    let f = correlation_at c.args.received.now c.args.sent.now in
    let block = c.loop-block.block in
    let before = c.loop-block.invariant in
    let inside : block < pilot_blocks_of m = omega (arith, c.loop-block-test.true, c.pilot_blocks-blocks.ensures.is) in
    let pilots : m.pilots ≡ true = has_pilots m block c.pilot_blocks-blocks.ensures.valid inside in
    let more : 90 + 36 * block + 36 ≡ 90 + 36 * (block + 1) = omega arith in
    record {
      is = c.plus-sum.ensures
          ∙ (λ t. plus (before.is t) ((c.piece_correlation.ensures.is ∙ summed_from_is f (90 + 1476 * block + 1440) 36) t)) ∙ sym (block_sum m f block pilots);
      most = subst (IsWithin (90 + 36 * (block + 1))) (sym c.plus-sum.ensures)
          (subst (λ n. IsWithin n (plus c.loop-block.sum c.piece_correlation.result)) more (plus_within (90 + 36 * block) 36 c.loop-block.sum c.piece_correlation.result before.most c.piece_correlation.ensures.most));
      fit = before.fit;
      few = before.few;
      long = before.long;
      same = before.same;
    }

pub returns-clause-is : goal.returns-clause-is
returns-clause-is c =
    let m = c.args.mode in
    let f = correlation_at c.args.received.now c.args.sent.now in
    let end : c.loop-block.block ≡ pilot_blocks_of m = omega (arith, c.pilot_blocks-blocks.ensures.is) in
    c.loop-block.invariant.is ∙ (ap (λ n. chosen (is_known m) f (90 + 1476 * n)) end ∙ known_sum m f c.pilot_blocks-blocks.ensures.valid)

pub returns-clause-most : goal.returns-clause-most
returns-clause-most c =
    let before = c.loop-block.invariant in
    let long : length c.args.received.now ≡ symbols_in c.args.mode = c.requires.received in
    within_more (90 + 36 * c.loop-block.block) (symbols_in c.args.mode) c.loop-block.sum (omega (arith, before.long, long)) before.most
