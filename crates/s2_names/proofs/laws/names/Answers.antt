use Rattle.s2_names.proofs.NameTexts.{one_number}
use Rattle.s2_names.proofs.laws.names.Goals as goal

pub returns : goal.returns
returns c = one_number
