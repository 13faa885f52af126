use Rattle.s2_table.proofs.RisenLaws.{one_risen_list, one_answer}
use Rattle.s2_table.proofs.laws.one_digest.Goals as goal

pub returns-clause-risen : goal.returns-clause-risen
returns-clause-risen c = one_risen_list

pub returns-clause-answer : goal.returns-clause-answer
returns-clause-answer c = one_answer
