use Rattle.s2_matrix.proofs.Layering.{layer_lem}
use Rattle.s2_matrix.proofs.laws.layers.Goals as goal

pub returns : goal.returns
returns c = layer_lem
