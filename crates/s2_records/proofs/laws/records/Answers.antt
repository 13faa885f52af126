use Rattle.s2_records.proofs.Streams.{records_lem}
use Rattle.s2_records.proofs.laws.records.Goals as goal

pub returns : goal.returns
returns g c = records_lem g.W.CountedWrite.contents
