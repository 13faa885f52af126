use Rattle.std.proofs.Common.{◌≡◌, ◌+◌, ◌*◌, ◌≤◌, ◌<◌, length, true, sym, ap, ◌∙◌, arith}
use Rattle.s2_mode.specs.Mode.{slots_of, pilot_blocks_of, symbols_in}
use Rattle.s2_message.specs.Errors.{error_at, is_known}
use Rattle.s2_message.proofs.Sums.{chosen, from_start, sum_from_is}
use Rattle.s2_message.proofs.Places.{header_sum, block_sum, blocks_fit, has_pilots, known_sum}
use Rattle.s2_message.proofs.distances.known_error.Goals as goal

pub piece_error-error-requires : goal.piece_error-error-requires
piece_error-error-requires c =
    let whole : symbols_in c.args.mode ≡ 90 + 90 * slots_of c.args.mode + 36 * pilot_blocks_of c.args.mode = c.pilot_blocks-blocks.ensures.sizes.symbols in
    let received : length c.args.received.now ≡ symbols_in c.args.mode = c.requires.received in
    let sent : length c.args.sent.now ≡ symbols_in c.args.mode = c.requires.sent in
    record { received = omega (arith, whole, received); sent = omega (arith, whole, sent); few = omega arith }

pub loop-block-init : goal.loop-block-init
loop-block-init c =
    let m = c.args.mode in
    let f = error_at c.args.received.now c.args.sent.now in
    let blocks : c.pilot_blocks-blocks.result ≡ pilot_blocks_of m = c.pilot_blocks-blocks.ensures.is in
    let fit : 16 * pilot_blocks_of m ≤ slots_of m = blocks_fit m c.pilot_blocks-blocks.ensures.valid in
    let whole : symbols_in m ≡ 90 + 90 * slots_of m + 36 * pilot_blocks_of m = c.pilot_blocks-blocks.ensures.sizes.symbols in
    let received : length c.args.received.now ≡ symbols_in m = c.requires.received in
    record {
      is = c.piece_error-error.ensures.is ∙ (from_start f 90 ∙ sym (header_sum m f));
      most = c.piece_error-error.ensures.most;
      fit = omega (arith, blocks, fit);
      few = c.pilot_blocks-blocks.ensures.sizes.slots_most;
      long = omega (arith, blocks, whole, received);
      same = c.requires.sent ∙ sym received;
    }

pub loop-block-preserved : goal.loop-block-preserved
loop-block-preserved c =
    let m = c.args.mode in
    let f = error_at c.args.received.now c.args.sent.now in
    let block = c.loop-block.block in
    let before = c.loop-block.invariant in
    let inside : block < pilot_blocks_of m = omega (arith, c.loop-block-test.true, c.pilot_blocks-blocks.ensures.is) in
    let pilots : m.pilots ≡ true = has_pilots m block c.pilot_blocks-blocks.ensures.valid inside in
    record {
      is = (λ t. before.is t + (c.piece_error-error-in-loop-block.ensures.is ∙ sum_from_is f (90 + 1476 * block + 1440) 36) t) ∙ sym (block_sum m f block pilots);
      most = omega (arith, c.piece_error-error-in-loop-block.ensures.most, before.most);
      fit = before.fit;
      few = before.few;
      long = before.long;
      same = before.same;
    }

pub returns : goal.returns
returns c =
    let m = c.args.mode in
    let f = error_at c.args.received.now c.args.sent.now in
    let end : c.loop-block.block ≡ pilot_blocks_of m = omega (arith, c.pilot_blocks-blocks.ensures.is) in
    c.loop-block.invariant.is ∙ (ap (λ n. chosen (is_known m) f (90 + 1476 * n)) end ∙ known_sum m f c.pilot_blocks-blocks.ensures.valid)
