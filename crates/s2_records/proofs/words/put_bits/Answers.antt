use Rattle.std.proofs.Common.{◌+◌, ◌*◌, ◌/◌, ◌<◌, ◌≤◌, ◌++◌, length, arith, sym, ap, ◌∙◌}
use Rattle.std.proofs.lemmas.List.{take_all}
use Rattle.std.proofs.lemmas.Result.{err_from_is_err_and}
use Rattle.s2_bits.specs.Bits.{byte_at}
use Rattle.s2_certfile.specs.Field.{bytes_of_bits}
use Rattle.s2_certfile.proofs.EntryLemmas.{length-listed, listed_at}
use Rattle.s2_certfile.proofs.Pages.{byte_through, byte_part}
use Rattle.s2_records.proofs.words.put_bits.Goals as goal

pub returns-in_err-put-clause-bytes : goal.returns-in_err-put-clause-bytes
returns-in_err-put-clause-bytes g c =
    let bits = c.args.bits.now in
    let k = c.loop-k.k in
    let n = (length bits + 7) / 8 in
    let low : k < n = omega (arith, c.loop-k-test.true, c.len.ensures, c.div_ceil-k-end.ensures) in
    let failed = err_from_is_err_and c.from_residual.result c.from_residual.ensures.1 in
    rw failed.1 (byte_part (bytes_of_bits bits) k _ _ _ _ _ _ (omega (arith, length-listed (λ i. byte_at bits (8 * i)) n)) (c.byte.ensures ∙ sym (listed_at (λ i. byte_at bits (8 * i)) n k low)) c.loop-k.invariant.bytes c.in_err-put.ensures.bytes)

pub loop-k-preserved : goal.loop-k-preserved
loop-k-preserved g c =
    let bits = c.args.bits.now in
    let k = c.loop-k.k in
    let n = (length bits + 7) / 8 in
    let low : k < n = omega (arith, c.loop-k-test.true, c.len.ensures, c.div_ceil-k-end.ensures) in
    record {
      bytes = byte_through (bytes_of_bits bits) k _ _ _ _ _ _ (omega (arith, length-listed (λ i. byte_at bits (8 * i)) n)) (c.byte.ensures ∙ sym (listed_at (λ i. byte_at bits (8 * i)) n k low)) _ c.loop-k.invariant.bytes c.in_ok-put.ensures.bytes;
      count = c.in_ok-put.ensures.cause ∙ c.loop-k.invariant.count;
    }

pub returns-clause-bytes : goal.returns-clause-bytes
returns-clause-bytes g c =
    let bits = c.args.bits.now in
    let k = c.loop-k.k in
    let n = (length bits + 7) / 8 in
    let all : n ≤ k = omega (arith, c.loop-k-test.false, c.len.ensures, c.div_ceil-k-end.ensures) in
    let (front, e, p) = c.loop-k.invariant.bytes in
    (front, ap (λ l. c.args.block.now.items ++ l) (sym (take_all k (bytes_of_bits bits) (omega (arith, length-listed (λ i. byte_at bits (8 * i)) n)))) ∙ e, p)
