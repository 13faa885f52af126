use Rattle.s2_records.proofs.LabelLemmas.{points_lem}
use Rattle.s2_records.proofs.laws.points.Goals as goal

pub returns : goal.returns
returns c = points_lem
