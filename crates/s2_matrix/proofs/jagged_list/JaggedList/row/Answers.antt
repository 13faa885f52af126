use Rattle.std.proofs.Common.{◌+◌, ◌-◌, ◌<◌, length, get_or, take, drop, List, [], ℕ, arith, ap, ap₂, sym, ◌∙◌}
use Rattle.std.proofs.lemmas.List.{get_or_default}
use Rattle.s2_matrix.proofs.Cuts.{length-cut, cut_row}
use Rattle.s2_matrix.proofs.jagged_list.JaggedList.row.Goals as goal

pub index-requires : goal.index-requires
index-requires c =
    omega (arith, length-cut c.self.inside.first.items c.self.inside.items.items, ap length c.self.view_is)

pub overflow_add-i : goal.overflow_add-i
overflow_add-i c =
    omega (arith, length-cut c.self.inside.first.items c.self.inside.items.items, ap length c.self.view_is, c.self.inside.first.small)

pub index-requires-2 : goal.index-requires-2
index-requires-2 c =
    omega (arith, length-cut c.self.inside.first.items c.self.inside.items.items, ap length c.self.view_is)

pub part-requires-clause-rises : goal.part-requires-clause-rises
part-requires-clause-rises c =
    let first = c.self.inside.first.items in
    let low : c.args.i + 1 < length first = omega (arith, length-cut first c.self.inside.items.items, ap length c.self.view_is) in
    let low' : c.args.i < length first = omega arith in
    omega (arith, c.self.invariant.rises c.args.i low, c.index.ensures, c.index-2.ensures, get_or_default first c.args.i c.index.result.now 0 low', get_or_default first (c.args.i + 1) c.index-2.result.now 0 low)

pub part-requires-clause-within : goal.part-requires-clause-within
part-requires-clause-within c =
    let first = c.self.inside.first.items in
    let low : c.args.i + 1 < length first = omega (arith, length-cut first c.self.inside.items.items, ap length c.self.view_is) in
    omega (arith, c.self.invariant.within (c.args.i + 1) low, c.index-2.ensures, get_or_default first (c.args.i + 1) c.index-2.result.now 0 low, c.deref.ensures.len)

pub returns : goal.returns
returns c =
    let first = c.self.inside.first.items in
    let items = c.self.inside.items.items in
    let i = c.args.i in
    let low : i + 1 < length first = omega (arith, length-cut first items, ap length c.self.view_is) in
    let low' : i < length first = omega arith in
    let a = c.index.ensures ∙ get_or_default first i c.index.result.now 0 low' in
    let b = c.index-2.ensures ∙ get_or_default first (i + 1) c.index-2.result.now 0 low in
    let all = c.deref.ensures.value in
    c.part.ensures ∙ ap₂ (λ (m n : ℕ). take (n - m) (drop m c.deref.result.now)) a b ∙ ap (λ (xs : List ℕ). take (get_or first (i + 1) 0 - get_or first i 0) (drop (get_or first i 0) xs)) all ∙ sym (cut_row first items i low) ∙ ap (λ (xss : List (List ℕ)). get_or xss i []) c.self.view_is
