use Rattle.std.proofs.Common.{◌≡◌, Bool, true, false, not, nat_eq, refl, ap, sym, ◌∙◌, arith}
use Rattle.std.specs.Cmp.Lexicographic.{pointwise, other_text}
use Rattle.std.proofs.lemmas.Grind.{common_steps}
use Rattle.s2_mode.specs.Shape.{Shape}
use Rattle.s2_check.proofs.SameCode.{same_rows, same_by_group}
use Rattle.s2_check.proofs.same.is_same.Goals as goal

denied : (b : Bool) → true ≡ not b → false ≡ b
denied true e = cc
denied false e = refl

pub returns-then-ne-2 : goal.returns-then-ne-2
returns-then-ne-2 c =
    let a = c.args.a.now in
    let b = c.args.b.now in
    let groups = ap (λ (s : Shape). s.groups) c.shape-3.ensures.is in (
      λ e. cc,
      λ same. (
          let xs = c.addresses.result.now in
          let ys = c.addresses-in-loop-group.result.now in
          let rows : xs ≡ ys = c.addresses.ensures.are ∙ same_rows a b same c.loop-group.group (omega arith) ∙ sym c.addresses-in-loop-group.ensures.are in
          let other : false ≡ pointwise nat_eq xs ys = denied (pointwise nat_eq xs ys) (sym c.if-ne-2.true ∙ c.ne-in-loop-group.ensures) in
          absurd (other_text xs ys other rows)
          ),
    )

pub returns : goal.returns
returns c =
    let a = c.args.a.now in
    let b = c.args.b.now in
    let shape : a.shape ≡ b.shape = grind (arith, common_steps) in
    let groups = ap (λ (s : Shape). s.groups) c.shape-3.ensures.is in
    (λ e. same_by_group a b shape (λ g low. c.loop-group.invariant g (omega arith)), λ same. search)
