use Rattle.std.proofs.Common.{◌≡◌, ◌+◌, ◌^◌, ◌≤◌, length, ap, sym, subst, ◌∙◌, arith}
use Rattle.std.specs.List.{range_with_len}
use Rattle.s2_mode.specs.Mode.{symbols_in}
use Rattle.s2_report.specs.declared.figures.Correlation.{Correlation}
use Rattle.s2_message.specs.Correlation.{IsWithin, correlation_at, correlation_over, plus, sum_over}
use Rattle.s2_message.specs.Errors.{known_places, payload_places}
use Rattle.s2_message.proofs.CorrelationSums.{rest_is, within_more}
use Rattle.s2_message.proofs.CorrelationPlaces.{payload_sum}
use Rattle.s2_message.proofs.correlations.correlations_of.Goals as goal

pub piece_correlation-whole-requires : goal.piece_correlation-whole-requires
piece_correlation-whole-requires c =
    let is : c.symbols.result ≡ symbols_in c.args.mode = c.symbols.ensures.is in
    let received : length c.args.received.now ≡ symbols_in c.args.mode = c.requires.received in
    let sent : length c.args.sent.now ≡ symbols_in c.args.mode = c.requires.sent in
    let most : symbols_in c.args.mode ≤ 33282 = c.symbols.ensures.sizes.symbols_most in
    record { received = omega (arith, is, received); sent = omega (arith, is, sent); few = omega (arith, is, most) }

pub minus-requires : goal.minus-requires
minus-requires c =
    let m = c.args.mode in
    let f = correlation_at c.args.received.now c.args.sent.now in
    let is : c.symbols.result ≡ symbols_in m = c.symbols.ensures.is in
    let most : symbols_in m ≤ 33282 = c.symbols.ensures.sizes.symbols_most in
    let whole : c.piece_correlation-whole.result ≡ sum_over f (range_with_len 0 (symbols_in m)) =
    c.piece_correlation-whole.ensures.is ∙ ap (λ n. sum_over f (range_with_len 0 n)) is in
    let known : c.known_correlation-known.result ≡ sum_over f (known_places m) = c.known_correlation-known.ensures.is in
    record {
      all = within_more c.symbols.result (2 ^ 20) c.piece_correlation-whole.result (omega (arith, is, most)) c.piece_correlation-whole.ensures.most;
      part = within_more (symbols_in m) (2 ^ 20) c.known_correlation-known.result (omega (arith, most)) c.known_correlation-known.ensures.most;
      power = omega (arith, ap (λ (x : Correlation). x.power) whole, ap (λ (x : Correlation). x.power) known, ap (λ (x : Correlation). x.power) (payload_sum m f));
    }

pub returns-clause-payload : goal.returns-clause-payload
returns-clause-payload c =
    let m = c.args.mode in
    let f = correlation_at c.args.received.now c.args.sent.now in
    let whole : c.piece_correlation-whole.result ≡ sum_over f (range_with_len 0 (symbols_in m)) =
    c.piece_correlation-whole.ensures.is ∙ ap (λ n. sum_over f (range_with_len 0 n)) c.symbols.ensures.is in
    let known : c.known_correlation-known.result ≡ sum_over f (known_places m) = c.known_correlation-known.ensures.is in
    c.minus.ensures ∙ rest_is c.piece_correlation-whole.result c.known_correlation-known.result (sum_over f (payload_places m))
    (ap (λ (x : Correlation). plus x (sum_over f (payload_places m))) known ∙ (payload_sum m f ∙ sym whole))
