use Rattle.s2_check.proofs.Strictness.{strictness_lem}
use Rattle.s2_check.proofs.laws.strictness.Goals as goal

pub returns : goal.returns
returns c = strictness_lem
