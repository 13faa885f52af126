use Rattle.s2_compare.proofs.AnswerLemmas.{likely_lem}
use Rattle.s2_compare.proofs.laws.likely.Goals as goal

pub returns : goal.returns
returns c = likely_lem
