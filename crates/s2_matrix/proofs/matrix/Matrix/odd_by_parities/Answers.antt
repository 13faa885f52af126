use Rattle.std.proofs.Common.{ap, ◌∙◌}
use Rattle.s2_mode.specs.Shape.{information_bits}
use Rattle.s2_matrix.proofs.Parities.{tested}
use Rattle.s2_matrix.proofs.matrix.Matrix.odd_by_parities.Goals as goal

pub returns : goal.returns
returns c =
    let r = c.args.self.now in
    let k = c.k.ensures.is ∙ ap information_bits c.shape.ensures.is in
    tested r c.k.result c.args.codeword.now c.split_at.result.0.now c.split_at.result.1.now c.parities_into.new.parities c.first_difference.result k c.requires c.split_at.ensures.front c.split_at.ensures.back c.parities_into.ensures.are c.first_difference.ensures
