use Rattle.s2_stitching.proofs.TrueRecords.{true_record}
use Rattle.s2_stitching.proofs.laws.true_records.Goals as goal

pub returns : goal.returns
returns c = true_record
