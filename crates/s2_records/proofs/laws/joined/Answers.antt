use Rattle.s2_records.proofs.JoinedBack.{joined_back}
use Rattle.s2_records.proofs.laws.joined.Goals as goal

pub returns : goal.returns
returns c = joined_back
