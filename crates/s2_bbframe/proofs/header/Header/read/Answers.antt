use Rattle.std.proofs.Common.{ap, sym, ◌∙◌, Ok}
use Rattle.s2_bbframe.specs.Headers.{has_valid_lengths}
use Rattle.s2_bbframe.proofs.Headers.{header_of_bytes-bad_crc, header_of_bytes-other, header_of_bytes-bad_lengths, header_of_bytes-accepted}
use Rattle.s2_bbframe.proofs.header.Header.read.Goals as goal

pub returns-then-not-is_whole : goal.returns-then-not-is_whole
returns-then-not-is_whole c = sym (header_of_bytes-bad_crc c.args.mode c.args.bytes.now (sym (c.if-not-is_whole.ensures {u = tt})))

pub returns-then-not-is_packet_stream : goal.returns-then-not-is_packet_stream
returns-then-not-is_packet_stream c =
    sym (header_of_bytes-other c.args.mode c.args.bytes.now (sym (c.if-not-is_whole.ensures {u = tt})) (sym (c.if-not-is_packet_stream.ensures {u = tt})))

pub returns-then-not-has_valid_lengths : goal.returns-then-not-has_valid_lengths
returns-then-not-has_valid_lengths c =
    let valid = ap (has_valid_lengths c.args.mode) (sym c.header_of-header.ensures) ∙ sym (c.if-not-has_valid_lengths.ensures {u = tt}) in
    sym (header_of_bytes-bad_lengths c.args.mode c.args.bytes.now (sym (c.if-not-is_whole.ensures {u = tt})) (sym (c.if-not-is_packet_stream.ensures {u = tt})) valid)

pub returns : goal.returns
returns c =
    let valid = ap (has_valid_lengths c.args.mode) (sym c.header_of-header.ensures) ∙ sym (c.if-not-has_valid_lengths.ensures {u = tt}) in
    ap (λ h. Ok h) c.header_of-header.ensures
    ∙ sym (header_of_bytes-accepted c.args.mode c.args.bytes.now (sym (c.if-not-is_whole.ensures {u = tt})) (sym (c.if-not-is_packet_stream.ensures {u = tt})) valid)
