use Rattle.std.proofs.Common.{◌*◌, ◌+◌, ◌/◌, ◌^◌, ◌<◌, ◌≤◌, length, arith, rules}
use Rattle.s2_bits.specs.Bits.{byte_at}
use Rattle.s2_certfile.specs.Field.{bytes_of_bits}
use Rattle.s2_certfile.proofs.EntryLemmas.{length-listed}
use Rattle.s2_stitch.specs.Records.{eight_at}
use Rattle.s2_stitch.proofs.SealLemmas.{sum_all, sum_more}
use Rattle.s2_stitch.proofs.seal.with_bits.Goals as goal

pub bits_eight-requires : goal.bits_eight-requires
bits_eight-requires c =
    let few : c.len.result < 2 ^ 64 = search rules in
    omega (arith, c.eights-test.true, c.div_ceil-k-end.ensures, c.div_ceil.ensures, few)

pub eights-preserved : goal.eights-preserved
eights-preserved c =
    let bits = c.args.word.now in
    let bytes = bytes_of_bits bits in
    let n = (length bytes + 7) / 8 in
    let long = length-listed (λ i. byte_at bits (8 * i)) ((length bits + 7) / 8) in
    let low : c.eights.k < n = omega (arith, c.eights-test.true, c.div_ceil-k-end.ensures, c.div_ceil.ensures, c.len.ensures, long) in
    sum_more (λ i. eight_at bytes (8 * i)) n c.eights.k c.args.sum c.eights.sum c.bits_eight.result c.step-sum.result low c.eights.invariant c.bits_eight.ensures c.step-sum.ensures

pub returns : goal.returns
returns c =
    let bits = c.args.word.now in
    let bytes = bytes_of_bits bits in
    let n = (length bytes + 7) / 8 in
    let long = length-listed (λ i. byte_at bits (8 * i)) ((length bits + 7) / 8) in
    let all : n ≤ c.eights.k = omega (arith, c.eights-test.false, c.div_ceil-k-end.ensures, c.div_ceil.ensures, c.len.ensures, long) in
    sum_all (λ i. eight_at bytes (8 * i)) n c.eights.k c.args.sum c.eights.sum all c.eights.invariant
