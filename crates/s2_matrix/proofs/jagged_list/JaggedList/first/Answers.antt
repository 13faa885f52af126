use Rattle.std.proofs.Common.{◌<◌, length, arith, ap, sym, ◌∙◌}
use Rattle.std.proofs.lemmas.List.{get_or_default}
use Rattle.s2_matrix.specs.CountingSort.{places_before}
use Rattle.s2_matrix.proofs.Cuts.{length-cut, cut_before}
use Rattle.s2_matrix.proofs.jagged_list.JaggedList.first.Goals as goal

pub index-requires : goal.index-requires
index-requires c =
    omega (arith, length-cut c.self.inside.first.items c.self.inside.items.items, ap length c.self.view_is, c.self.invariant.some)

pub returns : goal.returns
returns c =
    let first = c.self.inside.first.items in
    let items = c.self.inside.items.items in
    let low : c.args.i < length first = omega (arith, length-cut first items, ap length c.self.view_is, c.self.invariant.some) in
    c.index.ensures ∙ get_or_default first c.args.i c.index.result.now 0 low ∙ sym (cut_before first items c.args.i c.self.invariant low) ∙ ap (λ xss. places_before xss c.args.i) c.self.view_is
