use Rattle.std.proofs.Common.{◌++◌, ◌*◌, ◌+◌, ◌/◌, ◌<◌, ◌≤◌, rules, sym, ap, ◌∙◌, length, arith}
use Rattle.std.proofs.lemmas.List.{take_all}
use Rattle.s2_bits.specs.Bits.{byte_at}
use Rattle.s2_certfile.specs.Field.{bytes_of_bits}
use Rattle.s2_certfile.proofs.EntryLemmas.{length-listed, listed_at}
use Rattle.s2_stitch.proofs.RecordLemmas.{put_byte}
use Rattle.s2_stitch.proofs.write.put_bits.Goals as goal

pub bytes-preserved : goal.bytes-preserved
bytes-preserved c =
    let bits = c.args.word.now in
    let k = c.bytes.k in
    let n = (length bits + 7) / 8 in
    let low : k < n = omega (arith, c.bytes-test.true, c.len.ensures, c.div_ceil-k-end.ensures) in
    record {
      done = put_byte c.args.block.now.items c.bytes.block.items c.push.new.self.items (bytes_of_bits bits) k c.byte.result (omega (arith, low, length-listed (λ i. byte_at bits (8 * i)) n)) c.bytes.invariant.done (search rules)
          (c.byte.ensures ∙ sym (listed_at (λ i. byte_at bits (8 * i)) n k low));
    }

pub returns : goal.returns
returns c =
    let bits = c.args.word.now in
    let k = c.bytes.k in
    let n = (length bits + 7) / 8 in
    let all : n ≤ k = omega (arith, c.bytes-test.false, c.len.ensures, c.div_ceil-k-end.ensures) in
    c.bytes.invariant.done ∙ ap (λ l. c.args.block.now.items ++ l) (take_all k (bytes_of_bits bits) (omega (arith, all, length-listed (λ i. byte_at bits (8 * i)) n)))
