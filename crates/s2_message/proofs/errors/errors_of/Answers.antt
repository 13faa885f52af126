use Rattle.std.proofs.Common.{◌≡◌, ◌+◌, ◌-◌, ◌*◌, length, ap, ◌∙◌, arith}
use Rattle.std.specs.List.{range_with_len, sum_by}
use Rattle.s2_mode.specs.Mode.{symbols_in}
use Rattle.s2_message.specs.Errors.{error_at, known_places, payload_places}
use Rattle.s2_message.proofs.Sums.{from_start_is}
use Rattle.s2_message.proofs.Places.{known_count, payload_count, payload_sum}
use Rattle.s2_message.proofs.errors.errors_of.Goals as goal

pub overflow_sub-result : goal.overflow_sub-result
overflow_sub-result c =
    let m = c.args.mode in
    let f = error_at c.args.received.now c.args.sent.now in
    let both : sum_by f (known_places m) + sum_by f (payload_places m) ≡ sum_by f (range_with_len 0 (symbols_in m)) = payload_sum m f in
    let whole : c.piece_error-whole.result ≡ sum_by f (range_with_len 0 (symbols_in m)) =
    c.piece_error-whole.ensures.is ∙ (from_start_is f (length c.args.received.now) ∙ ap (λ n. sum_by f (range_with_len 0 n)) c.requires.received) in
    let known : c.known_error-known.result ≡ sum_by f (known_places m) = c.known_error-known.ensures in
    omega (arith, both, whole, known)

pub returns-clause-known : goal.returns-clause-known
returns-clause-known c =
    let m = c.args.mode in
    let count : 90 + 36 * c.pilot_blocks-blocks.result ≡ length (known_places m) = ap (λ n. 90 + 36 * n) c.pilot_blocks-blocks.ensures.is ∙ known_count m c.pilot_blocks-blocks.ensures.valid in
    λ t. record { sum = c.known_error-known.ensures t; of = count t }

pub returns-clause-payload : goal.returns-clause-payload
returns-clause-payload c =
    let m = c.args.mode in
    let f = error_at c.args.received.now c.args.sent.now in
    let both : sum_by f (known_places m) + sum_by f (payload_places m) ≡ sum_by f (range_with_len 0 (symbols_in m)) = payload_sum m f in
    let whole : c.piece_error-whole.result ≡ sum_by f (range_with_len 0 (symbols_in m)) =
    c.piece_error-whole.ensures.is ∙ (from_start_is f (length c.args.received.now) ∙ ap (λ n. sum_by f (range_with_len 0 n)) c.requires.received) in
    let known : c.known_error-known.result ≡ sum_by f (known_places m) = c.known_error-known.ensures in
    let sum : c.piece_error-whole.result - c.known_error-known.result ≡ sum_by f (payload_places m) = omega (arith, both, whole, known) in
    let count : 90 * c.slots-slots.result ≡ length (payload_places m) = ap (λ n. 90 * n) c.slots-slots.ensures.is ∙ payload_count m c.slots-slots.ensures.valid in
    λ t. record { sum = sum t; of = count t }
