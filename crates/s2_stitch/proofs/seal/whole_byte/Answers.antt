use Rattle.std.proofs.Common.{◌*◌, ◌+◌, ◌/◌, ◌<◌, length, arith, sym, ◌∙◌}
use Rattle.s2_bits.specs.Bits.{byte_at}
use Rattle.s2_certfile.proofs.EntryLemmas.{listed_at}
use Rattle.s2_stitch.proofs.seal.whole_byte.Goals as goal

pub returns : goal.returns
returns c =
    let bits = c.args.bits.now in
    let n = (length bits + 7) / 8 in
    let low : c.args.i < n = omega (arith, c.requires) in
    c.byte_at.ensures ∙ sym (listed_at (λ i. byte_at bits (8 * i)) n c.args.i low)
