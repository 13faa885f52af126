use Rattle.std.proofs.Common.{rules, subst, ◌≡◌, ◌∙◌, sym, ℕ, List}
use Rattle.std.specs.List.Sorted.{IsPermutation}
use Rattle.std.proofs.lemmas.List.Sorted.{IsNonDecreasingBy-from_sort}
use Rattle.arrayvec.proofs.ArrayVecLemmas.{items-with_items}
use Rattle.s2_table.specs.Rising.{IsRisen}
use Rattle.s2_table.proofs.rising.risen.Goals as goal

pub returns : goal.returns
returns c =
    let copy : c.deref_mut.result.now ≡ c.args.row.now = c.deref_mut.ensures.value ∙ c.copy_row-risen.ensures in
    let same = subst (λ (xs : List ℕ). IsPermutation xs c.sort_unstable.new.self) copy c.sort_unstable.ensures.permutation in
    let rising = IsNonDecreasingBy-from_sort (λ address. address) c.sort_unstable.new.self c.sort_unstable.ensures.sorted in
    let whole = items-with_items c.copy_row-risen.result c.sort_unstable.new.self (search rules) in
    subst (IsRisen c.args.row.now) (sym whole) (record { same = same; rising = rising })
