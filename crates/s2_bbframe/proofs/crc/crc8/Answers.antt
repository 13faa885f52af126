use Rattle.std.proofs.Common.{◌≡◌, ap, ◌∙◌, sym, take, length, ◌-◌, ◌%◌, ◌++◌}
use Rattle.std.specs.List.{flat_map}
use Rattle.std.proofs.lemmas.List.{take-append-drop}
use Rattle.std.proofs.lemmas.Grind.{flat_map-append}
use Rattle.s2_bits.specs.Bits.{bits_of_byte}
use Rattle.s2_bbframe.specs.Crc.{remainder, crc8}
use Rattle.s2_bbframe.proofs.Remainders.{remainder-append}
use Rattle.s2_bbframe.proofs.crc.crc8.Goals as goal

pub returns : goal.returns
unfolding crc8
returns c =
    let front = c.split_at.result.0.now in
    let back = c.split_at.result.1.now in
    let bytes = c.args.bytes.now in
    let size = length bytes - length bytes % 4 in
    let whole : front ++ back ≡ bytes =
    ap (λ list. list ++ back) c.split_at.ensures.front ∙ ap (λ list. take size bytes ++ list) c.split_at.ensures.back ∙ take-append-drop size bytes in
    c.over_bytes.ensures
    ∙ ap (λ r. remainder r (flat_map bits_of_byte back)) c.over_fours.ensures
    ∙ sym (remainder-append 0 (flat_map bits_of_byte front) (flat_map bits_of_byte back))
    ∙ ap (remainder 0) (sym (flat_map-append bits_of_byte front back))
    ∙ ap (λ list. remainder 0 (flat_map bits_of_byte list)) whole
