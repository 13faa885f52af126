use Rattle.std.proofs.Common.{◌↔◌, IsTrue, ℕ, ◌<◌, List, length, get_or, ℤ, pos, ◌≤ℤ◌, subst, arith}
use Rattle.s2_matrix.specs.Code.{code_of}
use Rattle.s2_split.specs.Making.{Making, made_of, AreSome}
use Rattle.s2_split.proofs.maker.Maker.is_strict.Goals as goal

pub returns : goal.returns
returns c =
    let inside = c.self.inside in
    let b = c.are_some.result in
    let long = c.self.invariant.rests_long in
    let P : Making → Type 0 = λ v. (IsTrue b ↔ AreSome (code_of v.rows) v.rests) in
    let says = subst (λ (xs : List ℤ). IsTrue b ↔ ((i : ℕ) → i < length xs → pos 1 ≤ℤ get_or xs i (pos 0))) c.deref.ensures.value c.are_some.ensures in
    let here : P (record { rows = inside.matrix.now; made = made_of inside.scale inside.moves.items; rests = inside.rests.items }) = (λ yes' i low. says.0 yes' i (omega (arith, low, long)), λ some. says.1 (λ i low. some i (omega (arith, low, long)))) in
    subst P c.self.view_is here
