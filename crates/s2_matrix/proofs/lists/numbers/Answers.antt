use Rattle.std.proofs.Common.{List, ℕ, ◌++◌, [], ◌∷◌, ap, sym, ◌∙◌}
use Rattle.s2_matrix.proofs.Totals.{upto_more}
use Rattle.s2_matrix.proofs.lists.numbers.Goals as goal

pub loop-i-preserved : goal.loop-i-preserved
loop-i-preserved c =
    c.in_ok-push.ensures.items ∙ ap (λ (xs : List ℕ). xs ++ c.loop-i.i ∷ []) c.loop-i.invariant ∙ sym (upto_more c.loop-i.i)
