use Rattle.std.proofs.Common.{◌≡◌, rules}
use Rattle.s2_check.specs.CertificateBytes.{bytes_of}
use Rattle.s2_records.proofs.FileSizes.{view_few}
use Rattle.s2_records.proofs.recorder.file_of.Goals as goal

pub returns-in-Ok-clause-few : goal.returns-in-Ok-clause-few
returns-in-Ok-clause-few c =
    let items : c.into_inner.result.items ≡ bytes_of c.args.certificate.now = search rules in
    rw items (view_few c.args.certificate.now c.shape-shape.ensures.valid)
