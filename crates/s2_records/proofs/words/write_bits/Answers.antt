use Rattle.std.proofs.lemmas.Result.{err_from_is_err_and}
use Rattle.s2_certfile.specs.Field.{bytes_of_bits}
use Rattle.s2_records.proofs.Blocks.{whole_out, part_out, part_of}
use Rattle.s2_records.proofs.words.write_bits.Goals as goal

pub returns-in_err-put_bits-clause-part : goal.returns-in_err-put_bits-clause-part
returns-in_err-put_bits-clause-part g c =
    let failed = err_from_is_err_and c.from_residual.result c.from_residual.ensures.1 in
    rw failed.1 (part_of _ _ _ (bytes_of_bits c.args.bits.now) c.clear.ensures.items c.in_err-put_bits.ensures.bytes)

pub returns-clause-bytes : goal.returns-clause-bytes
returns-clause-bytes g c =
    whole_out _ _ _ _ _ (bytes_of_bits c.args.bits.now) c.clear.ensures.items c.in_ok-put_bits.ensures.bytes c.flush.result c.flush.ensures.bytes

pub returns-clause-part : goal.returns-clause-part
returns-clause-part g c =
    part_out _ _ _ _ _ (bytes_of_bits c.args.bits.now) c.clear.ensures.items c.in_ok-put_bits.ensures.bytes c.flush.result c.flush.ensures.part
