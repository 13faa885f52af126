use Rattle.std.proofs.Common.{◌≡◌, ℕ, length, get_or, length-append, ap, ◌∙◌, arith}
use Rattle.std.proofs.lemmas.List.{get_or-take, get_or-drop}
use Rattle.s2_settle.specs.Rests.{given}
use Rattle.s2_settle.proofs.Pieces.{two_pieces}
use Rattle.s2_settle.proofs.kernels.gather.Goals as goal

same_move : (e v t t' a a' : ℕ) → t ≡ t' → a ≡ a' → given v t a e ≡ given v t' a' e
same_move e v t t' a a' p q = λ i. given v (p i) (q i) e

pub returns : goal.returns
returns c =
    let s = c.args.shift in
    let row = c.split_at.ensures in
    let inputs = c.split_at_mut-first.ensures in
    let targets = c.split_at-2.ensures in
    let amounts = c.split_at-3.ensures in
    let want = λ (k v : ℕ). given v (get_or c.args.targets.now k 0) (get_or c.args.amounts.now k 0) c.args.e in
    λ k lt. two_pieces want 0 0 (length c.args.row.now) s c.gather_piece.new.to c.gather_piece-2.new.to c.args.row.now _ _
    c.requires.rotation (omega (arith, c.gather_piece.auto.to, inputs.front_len)) row.front row.back
    (λ j l. c.gather_piece.ensures j (omega (arith, c.gather_piece.auto.to, inputs.front_len))
    ∙ same_move c.args.e _ _ _ _ _ (ap (λ xs. get_or xs j 0) targets.front ∙ get_or-take s c.args.targets.now j 0 l) (ap (λ xs. get_or xs j 0) amounts.front ∙ get_or-take s c.args.amounts.now j 0 l))
    (λ j l. c.gather_piece-2.ensures j (omega (arith, c.gather_piece-2.auto.to, inputs.back_len))
    ∙ same_move c.args.e _ _ _ _ _ (ap (λ xs. get_or xs j 0) targets.back ∙ get_or-drop s c.args.targets.now j 0) (ap (λ xs. get_or xs j 0) amounts.back ∙ get_or-drop s c.args.amounts.now j 0))
    k (omega (arith, length-append c.gather_piece.new.to c.gather_piece-2.new.to, c.gather_piece.auto.to, c.gather_piece-2.auto.to, inputs.front_len, inputs.back_len))
