use Rattle.s2_stitch.proofs.UncertifiedLemmas.{uncertified_too}
use Rattle.s2_stitch.proofs.laws.without_certificates.Goals as goal

pub returns : goal.returns
returns c = uncertified_too
