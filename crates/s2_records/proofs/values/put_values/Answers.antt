use Rattle.std.proofs.Common.{rules, arith, SFits, ◌≡◌, ◌≤◌, ◌∙◌, ℤ, pos, w16, length, get_or}
use Rattle.std.specs.Int.{cast_unsigned, cast_signed}
use Rattle.std.proofs.lemmas.Int.{to_z-of_z}
use Rattle.std.proofs.lemmas.List.{take_rest}
use Rattle.std.proofs.lemmas.Result.{err_from_is_err_and}
use Rattle.s2_records.proofs.Blocks.{goes_on, breaks_off, all_through}
use Rattle.s2_records.proofs.Lines.{line_at, line_end}
use Rattle.s2_records.proofs.values.put_values.Goals as goal

pub returns-in_err-put_value-clause-bytes : goal.returns-in_err-put_value-clause-bytes
returns-in_err-put_value-clause-bytes g c =
    let value : ℤ = get_or c.args.values.now c.loop-at.at (pos 0) in
    let fits : SFits w16 value = search rules in
    let same : cast_signed w16 (cast_unsigned w16 value) ≡ value = to_z-of_z w16 value fits in
    let failed = err_from_is_err_and c.from_residual.result c.from_residual.ensures.1 in
    let part = rw (c.after_value.ensures, take_rest) at c.in_err-put_value.ensures.bytes in
    rw failed.1 (breaks_off _ _ _ _ _ _ _ _ _ c.loop-at.invariant.bytes (line_at _ _ (cast_signed w16 (cast_unsigned w16 value)) same c.loop-at-test.true) part)

pub loop-at-preserved : goal.loop-at-preserved
loop-at-preserved g c =
    let value : ℤ = get_or c.args.values.now c.loop-at.at (pos 0) in
    let fits : SFits w16 value = search rules in
    let same : cast_signed w16 (cast_unsigned w16 value) ≡ value = to_z-of_z w16 value fits in
    let whole = rw (c.after_value.ensures, take_rest) at c.in_ok-put_value.ensures.bytes in
    record {
      bytes = goes_on _ _ _ _ _ _ _ _ _ c.loop-at.invariant.bytes (line_at _ _ (cast_signed w16 (cast_unsigned w16 value)) same c.loop-at-test.true) _ whole;
      count = c.in_ok-put_value.ensures.cause ∙ c.loop-at.invariant.count;
    }

pub returns-clause-bytes : goal.returns-clause-bytes
returns-clause-bytes g c =
    let end : length c.args.values.now ≤ c.loop-at.at = omega arith in
    all_through _ _ _ _ _ _ c.loop-at.invariant.bytes (line_end _ _ end)
