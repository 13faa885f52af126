use Rattle.s2_receive.proofs.Names.{◌≡◌, true}
use Rattle.s2_receive.proofs.RunsSoFar.{run_begins, run_ends, run_seeks, run_settles}
use Rattle.s2_receive.proofs.laws.runs.Goals as goal

pub returns-clause-begins : goal.returns-clause-begins
returns-clause-begins c = λ shows. run_begins (λ symbols d. shows symbols d ≡ true)

pub returns-clause-seeks : goal.returns-clause-seeks
returns-clause-seeks c = λ shows. run_seeks (λ symbols d. shows symbols d ≡ true)

pub returns-clause-settles : goal.returns-clause-settles
returns-clause-settles c = λ shows. run_settles (λ symbols d. shows symbols d ≡ true)

pub returns-clause-ends : goal.returns-clause-ends
returns-clause-ends c = λ shows. run_ends (λ symbols d. shows symbols d ≡ true)
