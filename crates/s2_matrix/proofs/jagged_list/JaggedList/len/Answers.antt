use Rattle.std.proofs.Common.{length, arith, ap}
use Rattle.s2_matrix.proofs.Cuts.{length-cut}
use Rattle.s2_matrix.proofs.jagged_list.JaggedList.len.Goals as goal

pub returns : goal.returns
returns c =
    omega (arith, length-cut c.self.inside.first.items c.self.inside.items.items, ap length c.self.view_is)
