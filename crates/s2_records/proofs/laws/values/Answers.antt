use Rattle.s2_records.proofs.ValueLines.{values_lem}
use Rattle.s2_records.proofs.laws.values.Goals as goal

pub returns : goal.returns
returns c = values_lem
