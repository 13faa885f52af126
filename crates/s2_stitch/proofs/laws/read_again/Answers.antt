use Rattle.s2_stitch.proofs.RecordLemmas.{read_again, same_records, written}
use Rattle.s2_stitch.proofs.laws.read_again.Goals as goal

pub returns-clause-one : goal.returns-clause-one
returns-clause-one c = read_again

pub returns-clause-all : goal.returns-clause-all
returns-clause-all c = written

pub returns-clause-no_others : goal.returns-clause-no_others
returns-clause-no_others c = same_records
