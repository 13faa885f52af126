use Rattle.s2_records.proofs.Recorded.{recorded_lem}
use Rattle.s2_records.proofs.laws.recorded.Goals as goal

pub returns : goal.returns
returns g c = recorded_lem g.W.CountedWrite.contents
