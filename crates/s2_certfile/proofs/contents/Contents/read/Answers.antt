use Rattle.std.proofs.lemmas.Result.{err_from_is_err_and}
use Rattle.s2_certfile.specs.File.{File}
use Rattle.s2_certfile.proofs.Refusals.{front_refuses, header_refuses}
use Rattle.s2_certfile.proofs.contents.Contents.read.Goals as goal

pub returns-in_err-version : goal.returns-in_err-version
returns-in_err-version c =
    let p = err_from_is_err_and c.from_residual.result c.from_residual.ensures.1 in
    rw (p.1, p.2) (front_refuses {V = File} (λ f. f) c.args.bytes.now c.in_err-version.field-0.0 c.in_err-version.ensures)

pub returns-in-Err : goal.returns-in-Err
returns-in-Err c = header_refuses {V = File} (λ f. f) c.args.bytes.now c.in_ok-version.version c.in_ok-version.rest.now c.in-Err.fault c.in_ok-version.ensures c.in-Err.ensures.is
