use Rattle.std.proofs.Common.{arith, refl, ◌∙◌}
use Rattle.std.proofs.lemmas.Result.{err_from_is_err_and}
use Rattle.s2_certfile.proofs.Pages.{byte_through, byte_part}
use Rattle.s2_certfile.proofs.page.put_each.Goals as goal

pub returns-in_err-put-clause-bytes : goal.returns-in_err-put-clause-bytes
returns-in_err-put-clause-bytes g c =
    let failed = err_from_is_err_and c.from_residual.result c.from_residual.ensures.1 in
    rw failed.1 (byte_part c.args.bytes.now c.loop-byte.byte-index _ _ _ _ _ _ (omega (arith, c.loop-byte-test.true)) refl c.loop-byte.invariant.bytes c.in_err-put.ensures.bytes)

pub loop-byte-preserved : goal.loop-byte-preserved
loop-byte-preserved g c = record {
  bytes = byte_through c.args.bytes.now c.loop-byte.byte-index _ _ _ _ _ _ (omega (arith, c.loop-byte-test.true)) refl _ c.loop-byte.invariant.bytes c.in_ok-put.ensures.bytes;
  count = c.in_ok-put.ensures.cause ∙ c.loop-byte.invariant.count;
}
