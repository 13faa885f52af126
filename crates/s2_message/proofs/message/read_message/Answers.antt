use Rattle.std.proofs.Common.{rules, take_all, ◌≡◌, ◌/◌, true, length, take, sym, ap, ◌∙◌, arith}
use Rattle.s2_mode.specs.Mode.{kbch_of}
use Rattle.s2_bits.specs.Bits.{bytes_from}
use Rattle.s2_bbframe.specs.Headers.{has_valid_lengths, header_of_bytes}
use Rattle.s2_scramble.specs.Baseband.{scrambled}
use Rattle.s2_message.specs.Decisions.{header_in, message_of}
use Rattle.s2_message.proofs.MessageLemmas.{accepted_valid, field_fits, frame_read}
use Rattle.s2_message.proofs.message.read_message.Goals as goal
use Rattle.s2_message.proofs.message.read_message.Goals.{After-read, In-Ok}

frame_is : (c : After-read) → c.bb_xor_in_place.new.bits ≡ scrambled (message_of c.args.mode c.args.bch_word.now)
frame_is c =
    frame_read c.args.mode c.args.bch_word.now c.args.frame.now c.copy_prefix.new.self c.bb_xor_in_place.new.bits c.kbch.result c.kbch.ensures.is c.kbch.ensures.sizes c.requires.bch_word c.requires.frame c.copy_prefix.ensures c.bb_xor_in_place.ensures.is

header_is : (c : After-read) → c.read.result ≡ header_of_bytes c.args.mode (header_in (scrambled (message_of c.args.mode c.args.bch_word.now)))
header_is c =
    let bytes = c.bytes_from.new.bytes in
    c.read.ensures ∙ ap (header_of_bytes c.args.mode) (sym (take_all 10 bytes (omega (arith, c.bytes_from.auto.bytes))) ∙ c.bytes_from.ensures ∙ ap (bytes_from 0 10) (c.truths-bits.ensures ∙ frame_is c))

valid : (c : In-Ok) → has_valid_lengths c.args.mode c.in-Ok.header ≡ true
valid c = accepted_valid c.args.mode c.bytes_from.new.bytes c.in-Ok.header (sym c.read.ensures ∙ c.in-Ok.is)

pub returns-in-Err-clause-header : goal.returns-in-Err-clause-header
returns-in-Err-clause-header c = sym c.in-Err.is ∙ header_is (goal.at.returns-in-Err-clause-header c).After-read

pub bytes_from-requires-in-Ok-clause-bits : goal.bytes_from-requires-in-Ok-clause-bits
bytes_from-requires-in-Ok-clause-bits c =
    let both = field_fits c.args.mode c.in-Ok.header c.from-filled.result c.kbch.ensures.sizes (valid (goal.at.bytes_from-requires-in-Ok-clause-bits c).In-Ok) c.from-filled.ensures in
    let long : length c.truths-bits.result.now ≡ kbch_of c.args.mode = ap length c.truths-bits.ensures ∙ (c.bb_xor_in_place.ensures.each.long ∙ (c.copy_prefix.ensures.long ∙ c.requires.frame)) in
    omega (arith, both.0, long)

pub bytes_from-requires-in-Ok-clause-room : goal.bytes_from-requires-in-Ok-clause-room
bytes_from-requires-in-Ok-clause-room c =
    let both = field_fits c.args.mode c.in-Ok.header c.from-filled.result c.kbch.ensures.sizes (valid (goal.at.bytes_from-requires-in-Ok-clause-room c).In-Ok) c.from-filled.ensures in
    omega (arith, both.1, c.requires.field)

pub returns-in-Ok : goal.returns-in-Ok
returns-in-Ok c =
    let at = goal.at.returns-in-Ok c in
    let both = field_fits c.args.mode c.in-Ok.header c.from-filled.result c.kbch.ensures.sizes (valid at.In-Ok) c.from-filled.ensures in
    record {
      header = sym c.in-Ok.is ∙ header_is at.After-read;
      field = ap (λ n. take n c.bytes_from-in-Ok.new.bytes) (sym c.from-filled.ensures) ∙ c.bytes_from-in-Ok.ensures
          ∙ ap (λ n. bytes_from 10 n c.truths-bits.result.now) c.from-filled.ensures ∙ ap (bytes_from 10 (c.in-Ok.header.dfl / 8)) (c.truths-bits.ensures ∙ frame_is at.After-read);
      valid = valid at.In-Ok;
      room = omega (arith, both.1, c.requires.field, c.from-filled.ensures, c.bytes_from-in-Ok.auto.bytes);
      frame = search rules;
    }
