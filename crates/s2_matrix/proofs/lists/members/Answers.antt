use Rattle.std.proofs.Common.{ℕ, List, map, ap, ap₂, ◌∙◌}
use Rattle.s2_mode.specs.Shape.{check_count}
use Rattle.s2_matrix.specs.Total.{upto}
use Rattle.s2_matrix.specs.Code.{code_of}
use Rattle.s2_matrix.specs.CountingSort.{with_key}
use Rattle.s2_matrix.proofs.Flats.{members_given}
use Rattle.s2_matrix.proofs.lists.members.Goals as goal

pub returns-clause-are : goal.returns-clause-are
returns-clause-are c =
    let cs = c.join_parities.new.checks.items in
    let bs = c.join_parities.new.bits.items in
    let count = c.checks-count.ensures.is ∙ ap check_count c.shape-shape.ensures.is in
    c.in_ok-by_check.ensures.lists ∙ ap₂ (λ (x y : List ℕ). map (with_key x y) (upto c.checks-count.result)) c.deref.ensures.value c.deref-2.ensures.value ∙ ap (λ (n : ℕ). map (with_key cs bs) (upto n)) count ∙ members_given (code_of c.args.rows.now) cs bs c.in_ok-join_parities.ensures
