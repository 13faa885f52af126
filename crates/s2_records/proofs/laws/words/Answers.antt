use Rattle.s2_records.proofs.Streams.{words_lem}
use Rattle.s2_records.proofs.laws.words.Goals as goal

pub returns : goal.returns
returns g c = words_lem g.W.CountedWrite.contents
