use Rattle.s2_records.proofs.Sizes.{whole_lem}
use Rattle.s2_records.proofs.laws.whole.Goals as goal

pub returns : goal.returns
returns c = whole_lem
