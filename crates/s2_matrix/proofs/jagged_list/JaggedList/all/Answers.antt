use Rattle.std.proofs.Common.{ap, sym, ◌∙◌}
use Rattle.s2_matrix.specs.Joined.{joined}
use Rattle.s2_matrix.proofs.Cuts.{cut_joined}
use Rattle.s2_matrix.proofs.jagged_list.JaggedList.all.Goals as goal

pub returns : goal.returns
returns c =
    c.deref.ensures.value ∙ sym (cut_joined c.self.inside.first.items c.self.inside.items.items c.self.invariant) ∙ ap joined c.self.view_is
