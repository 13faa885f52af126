use Rattle.s2_records.proofs.Streams.{bbframes_lem}
use Rattle.s2_records.proofs.laws.bbframes.Goals as goal

pub returns : goal.returns
returns g c = bbframes_lem g.W.CountedWrite.contents
