use Rattle.std.proofs.Common.{rules, SFits, ◌≡◌, ℤ, get_or, pos, w16, arith, ◌∙◌}
use Rattle.std.specs.Int.{cast_unsigned, cast_signed}
use Rattle.std.proofs.lemmas.Int.{to_z-of_z}
use Rattle.std.proofs.lemmas.Result.{err_from_is_err_and}
use Rattle.s2_certfile.specs.Format.{soft}
use Rattle.s2_certfile.proofs.Pages.{entry_through, entry_part}
use Rattle.s2_certfile.proofs.write.write_soft.Goals as goal

pub returns-in_err-put_soft-clause-bytes : goal.returns-in_err-put_soft-clause-bytes
returns-in_err-put_soft-clause-bytes g c =
    let value : ℤ = get_or c.args.values.now c.loop-value.value-index (pos 0) in
    let fits : SFits w16 value = search rules in
    let same : cast_signed w16 (cast_unsigned w16 value) ≡ value = to_z-of_z w16 value fits in
    let failed = err_from_is_err_and c.from_residual.result c.from_residual.ensures.1 in
    rw failed.1 (entry_part soft.bytes c.args.values.now c.loop-value.value-index (pos 0) (cast_signed w16 (cast_unsigned w16 value)) _ _ _ _ _ (omega (arith, c.loop-value-test.true)) same c.loop-value.invariant.bytes c.in_err-put_soft.ensures.bytes)

pub loop-value-preserved : goal.loop-value-preserved
loop-value-preserved g c =
    let value : ℤ = get_or c.args.values.now c.loop-value.value-index (pos 0) in
    let fits : SFits w16 value = search rules in
    let same : cast_signed w16 (cast_unsigned w16 value) ≡ value = to_z-of_z w16 value fits in
    record {
      bytes = entry_through soft.bytes c.args.values.now c.loop-value.value-index (pos 0) (cast_signed w16 (cast_unsigned w16 value)) _ _ _ _ _ (omega (arith, c.loop-value-test.true)) same _ c.loop-value.invariant.bytes c.in_ok-put_soft.ensures.bytes;
      count = c.in_ok-put_soft.ensures.cause ∙ c.loop-value.invariant.count;
    }
