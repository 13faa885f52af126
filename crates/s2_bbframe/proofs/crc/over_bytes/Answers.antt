use Rattle.std.proofs.Common.{◌≡◌, ◌+◌, ◌<◌, ap, ◌∙◌, refl, sym, arith, drop, length, get_or, []}
use Rattle.std.specs.List.{flat_map}
use Rattle.std.proofs.lemmas.List.{drop_more, drop_all}
use Rattle.s2_bits.specs.Bits.{bits_of_byte}
use Rattle.s2_bbframe.specs.Crc.{remainder}
use Rattle.s2_bbframe.proofs.Remainders.{remainder-append}
use Rattle.s2_bbframe.proofs.crc.over_bytes.Goals as goal

pub loop-byte-init : goal.loop-byte-init
loop-byte-init c = refl

pub loop-byte-preserved : goal.loop-byte-preserved
loop-byte-preserved c =
    let here : c.loop-byte.byte-index < length c.args.bytes.now = omega arith in
    let more = drop_more c.args.bytes.now c.loop-byte.byte-index 0 here in
    let rest = flat_map bits_of_byte (drop (c.loop-byte.byte-index + 1) c.args.bytes.now) in
    ap (λ crc. remainder crc rest) c.next_byte-crc.ensures
    ∙ sym (remainder-append c.loop-byte.crc (bits_of_byte (get_or c.args.bytes.now c.loop-byte.byte-index 0)) rest)
    ∙ ap (λ bytes. remainder c.loop-byte.crc (flat_map bits_of_byte bytes)) (sym more)
    ∙ c.loop-byte.invariant

pub returns : goal.returns
unfolding remainder
returns c =
    let none : drop c.loop-byte.byte-index c.args.bytes.now ≡ [] = drop_all c.loop-byte.byte-index c.args.bytes.now (omega arith) in
    ap (λ bytes. remainder c.loop-byte.crc (flat_map bits_of_byte bytes)) (sym none) ∙ c.loop-byte.invariant
