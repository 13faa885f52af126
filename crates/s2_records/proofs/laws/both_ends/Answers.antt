use Rattle.s2_records.proofs.BothEnds.{both_ends_lem}
use Rattle.s2_records.proofs.laws.both_ends.Goals as goal

pub returns : goal.returns
returns c = both_ends_lem
