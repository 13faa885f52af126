use Rattle.s2_compare.proofs.AnswerLemmas.{equal_lem}
use Rattle.s2_compare.proofs.laws.equal.Goals as goal

pub returns : goal.returns
returns c = equal_lem
