use Rattle.s2_records.proofs.LawLemmas.{together}
use Rattle.s2_records.proofs.laws.together.Goals as goal

pub returns : goal.returns
returns c = together
