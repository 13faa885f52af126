use Rattle.s2_settle.proofs.RuleLaws.{layer_law}
use Rattle.s2_settle.proofs.laws.layer.Goals as goal

pub returns : goal.returns
returns c = layer_law
