use Rattle.s2_audit.proofs.OnlyLemmas.{fine_is_right}
use Rattle.s2_audit.proofs.laws.fine.Goals as goal

pub returns : goal.returns
returns c = fine_is_right
