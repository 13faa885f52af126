use Rattle.std.proofs.Common.{◌≡◌, ℕ, ◌+◌, ◌*◌, ◌/◌, ◌≤◌, List, length, take, ap, ap₂, ◌∙◌, refl, sym, subst}
use Rattle.s2_mode.specs.Shape.{Shape, IsShape, shape_of, code_bits, check_count}
use Rattle.s2_evidence.proofs.PieceLemmas.{headed, numbers_same, over_count, shape_at, count_in}
use Rattle.s2_evidence.proofs.sizes.piece_size.Goals as goal

pub returns-in_default-clause-piece : goal.returns-in_default-clause-piece
returns-in_default-clause-piece c = λ bytes missing front long size.
    let same = numbers_same c.number16.result c.number16-2.result c.number16-3.result _ _ _ c.number16.ensures c.number16-2.ensures c.number16-3.ensures in
    let none : (IsShape (shape_at c.args.head.now) → ⊥) = λ shaped. (let e = c.in_default.ensures.found.1 (subst IsShape (sym same) shaped) in cc) in
    headed bytes c.args.head.now missing front long (λ other shaped. absurd (none shaped), λ one shaped few. absurd (none shaped))

pub returns-then-head-ne1-clause-piece : goal.returns-then-head-ne1-clause-piece
returns-then-head-ne1-clause-piece c = λ bytes missing front long size.
    let same : c.in-Some.shape ≡ shape_at c.args.head.now =
    c.in-Some.ensures.value ∙ numbers_same c.number16.result c.number16-2.result c.number16-3.result _ _ _ c.number16.ensures c.number16-2.ensures c.number16-3.ensures in
    headed bytes c.args.head.now missing front long (
      λ other shaped. size ∙ ap₂ (λ n k. 13 + (2 * n + (n + 7) / 8) + 6 * k) (c.n-n.ensures.is ∙ ap code_bits same) (c.checks.ensures.is ∙ ap check_count same),
      λ one. absurd (c.if-head-ne1.true one),
    )

pub returns-then-count-gt-MAX_SHARES-clause-piece : goal.returns-then-count-gt-MAX_SHARES-clause-piece
returns-then-count-gt-MAX_SHARES-clause-piece c = λ bytes missing front long size.
    headed bytes c.args.head.now missing front long (
      λ other. absurd (other c.if-head-ne1.false),
      λ one shaped few. absurd (over_count c.number32-count.result (count_in c.args.head.now) c.number32-count.ensures c.if-count-gt-MAX_SHARES.true few),
    )

pub returns-clause-piece : goal.returns-clause-piece
returns-clause-piece c = λ bytes missing front long size.
    let same : c.in-Some.shape ≡ shape_at c.args.head.now =
    c.in-Some.ensures.value ∙ numbers_same c.number16.result c.number16-2.result c.number16-3.result _ _ _ c.number16.ensures c.number16-2.ensures c.number16-3.ensures in
    headed bytes c.args.head.now missing front long (
      λ other. absurd (other c.if-head-ne1.false),
      λ one shaped few. size ∙ ap₂ (λ n k. 17 + (2 * n + (n + 7) / 8) + 4 * k) (c.n-n.ensures.is ∙ ap code_bits same) c.number32-count.ensures,
    )
