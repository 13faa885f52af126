use Rattle.s2_replay.proofs.ExpectedLemmas.{certified, expects, expects_last, refused, same_decision, same_word, settled}
use Rattle.s2_replay.proofs.laws.expects.Goals as goal

pub returns-clause-frame : goal.returns-clause-frame
returns-clause-frame c = expects

pub returns-clause-last : goal.returns-clause-last
returns-clause-last c = expects_last

pub returns-clause-settled : goal.returns-clause-settled
returns-clause-settled c = settled

pub returns-clause-certified : goal.returns-clause-certified
returns-clause-certified c = certified

pub returns-clause-same : goal.returns-clause-same
returns-clause-same c = same_decision

pub returns-clause-refused : goal.returns-clause-refused
returns-clause-refused c = refused

pub returns-clause-word : goal.returns-clause-word
returns-clause-word c = same_word
