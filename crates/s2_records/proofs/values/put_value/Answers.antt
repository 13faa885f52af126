use Rattle.std.proofs.Common.{rules, ◌≡◌}
use Rattle.std.specs.Fmt.{signed_decimal}
use Rattle.std.proofs.lemmas.Result.{err_from_is_err_and}
use Rattle.s2_certfile.proofs.Pages.{first_part, through_both}
use Rattle.s2_records.proofs.values.put_value.Goals as goal

pub returns-in_err-put-clause-bytes : goal.returns-in_err-put-clause-bytes
returns-in_err-put-clause-bytes g c =
    let digits : c.as_bytes.result.now ≡ signed_decimal c.args.value = search rules in
    let failed = err_from_is_err_and c.from_residual.result c.from_residual.ensures.1 in
    let part = rw digits at c.in_err-put.ensures.bytes in
    rw failed.1 (first_part _ _ _ (signed_decimal c.args.value) c.args.after.now part)

pub returns-clause-bytes : goal.returns-clause-bytes
returns-clause-bytes g c =
    let digits : c.as_bytes.result.now ≡ signed_decimal c.args.value = search rules in
    let first = rw digits at c.in_ok-put.ensures.bytes in
    through_both _ _ _ _ _ c.put-2.result _ (signed_decimal c.args.value) c.args.after.now first c.put-2.ensures.bytes
