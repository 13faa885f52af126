use Rattle.std.proofs.lemmas.Result.{err_from_is_err_and}
use Rattle.s2_certfile.specs.Format.{front_bytes, count_bytes}
use Rattle.s2_certfile.proofs.Pages.{first_part, through_both}
use Rattle.s2_certfile.proofs.write.write_header.Goals as goal

pub returns-in_err-write_front-clause-bytes : goal.returns-in_err-write_front-clause-bytes
returns-in_err-write_front-clause-bytes g c =
    let header = c.args.header.now in
    let failed = err_from_is_err_and c.from_residual.result c.from_residual.ensures.1 in
    rw failed.1 (first_part _ _ _ (front_bytes header) (count_bytes header.version header.count) c.in_err-write_front.ensures.bytes)

pub returns-clause-bytes : goal.returns-clause-bytes
returns-clause-bytes g c =
    let header = c.args.header.now in
    through_both _ _ _ _ _ c.write_count.result _ (front_bytes header) (count_bytes header.version header.count) c.in_ok-write_front.ensures.bytes c.write_count.ensures.bytes
