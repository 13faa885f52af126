use Rattle.s2_ldpc.proofs.Parts.{unique_lem}
use Rattle.s2_ldpc.proofs.laws.unique.Goals as goal

pub returns : goal.returns
returns c = unique_lem
