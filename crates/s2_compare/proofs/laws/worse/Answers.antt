use Rattle.s2_compare.proofs.AnswerLemmas.{worse_lem}
use Rattle.s2_compare.proofs.laws.worse.Goals as goal

pub returns : goal.returns
returns c = worse_lem
