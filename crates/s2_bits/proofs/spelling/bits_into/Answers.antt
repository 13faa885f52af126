use Rattle.std.proofs.Common.{◌≡◌, ℕ, ◌<◌, ◌+◌, ◌*◌, ◌++◌, List, [], ◌∷◌, ap, ◌∙◌, take, get_or, length, sym, arith, append-nil}
use Rattle.std.proofs.lemmas.List.{take_more}
use Rattle.std.proofs.lemmas.List.Concat.{flat_map-append}
use Rattle.s2_bits.specs.Bits.{bits_of_byte, bits_of_bytes}
use Rattle.s2_bits.proofs.Eights.{eight_more}
use Rattle.s2_bits.proofs.Spelled.{one_byte_more}
use Rattle.s2_bits.proofs.spelling.bits_into.Goals as goal

pub loop-i-preserved : goal.loop-i-preserved
unfolding bits_of_byte
loop-i-preserved c =
    let i : ℕ = c.loop-i.i in
    let bytes : List ℕ = c.args.bytes.now in
    let lt : i < length bytes = c.loop-i-test.true in
    let at : 8 * (i + 1) ≡ 8 * i + 8 = omega arith in
    rw (at, c.byte_bits.ensures)
    (eight_more (8 * i) c.loop-i.bits (bits_of_bytes (take i bytes)) _ _ _ _ _ _ _ _ (omega arith) c.loop-i.invariant ∙ sym (one_byte_more bytes i lt))
