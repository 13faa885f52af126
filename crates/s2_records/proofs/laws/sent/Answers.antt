use Rattle.s2_records.proofs.Streams.{sent_lem}
use Rattle.s2_records.proofs.laws.sent.Goals as goal

pub returns : goal.returns
returns g c = sent_lem g.W.CountedWrite.contents
