use Rattle.std.proofs.Common.{◌*◌, ◌+◌, ◌/◌, ◌<◌, ◌≤◌, length, arith, sym, ◌∙◌}
use Rattle.std.proofs.lemmas.List.{get_or_past}
use Rattle.s2_bits.specs.Bits.{byte_at}
use Rattle.s2_certfile.specs.Field.{bytes_of_bits}
use Rattle.s2_certfile.proofs.EntryLemmas.{length-listed, listed_at}
use Rattle.s2_stitch.proofs.seal.padded_bits.Goals as goal

pub returns-then-i-div_ceil : goal.returns-then-i-div_ceil
returns-then-i-div_ceil c =
    let bits = c.args.word.now in
    let n = (length bits + 7) / 8 in
    let low : c.args.i < n = omega (arith, c.if-i-div_ceil.true, c.len.ensures, c.div_ceil.ensures) in
    c.byte.ensures ∙ sym (listed_at (λ i. byte_at bits (8 * i)) n c.args.i low)

pub returns-else-i-div_ceil : goal.returns-else-i-div_ceil
returns-else-i-div_ceil c =
    let bits = c.args.word.now in
    let n = (length bits + 7) / 8 in
    let high : n ≤ c.args.i = omega (arith, c.if-i-div_ceil.false, c.len.ensures, c.div_ceil.ensures) in
    sym (get_or_past (bytes_of_bits bits) c.args.i 0 (omega (arith, high, length-listed (λ i. byte_at bits (8 * i)) n)))
