use Rattle.s2_records.proofs.ReadBack.{read_back_lem}
use Rattle.s2_records.proofs.laws.read_back.Goals as goal

pub returns : goal.returns
returns c = read_back_lem
