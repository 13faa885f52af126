use Rattle.std.proofs.lemmas.Result.{err_from_is_err_and}
use Rattle.s2_records.specs.Values.{values_line}
use Rattle.s2_records.proofs.Blocks.{whole_out, part_out, part_of}
use Rattle.s2_records.proofs.values.write_values.Goals as goal

pub returns-in_err-put_values-clause-part : goal.returns-in_err-put_values-clause-part
returns-in_err-put_values-clause-part g c =
    let failed = err_from_is_err_and c.from_residual.result c.from_residual.ensures.1 in
    rw failed.1 (part_of _ _ _ (values_line c.args.values.now) c.clear.ensures.items c.in_err-put_values.ensures.bytes)

pub returns-clause-bytes : goal.returns-clause-bytes
returns-clause-bytes g c =
    whole_out _ _ _ _ _ (values_line c.args.values.now) c.clear.ensures.items c.in_ok-put_values.ensures.bytes c.flush.result c.flush.ensures.bytes

pub returns-clause-part : goal.returns-clause-part
returns-clause-part g c =
    part_out _ _ _ _ _ (values_line c.args.values.now) c.clear.ensures.items c.in_ok-put_values.ensures.bytes c.flush.result c.flush.ensures.part
