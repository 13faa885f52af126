use Rattle.s2_matrix.proofs.RelationLemmas.{member_lem}
use Rattle.s2_matrix.proofs.laws.members.Goals as goal

pub returns : goal.returns
returns c = member_lem
