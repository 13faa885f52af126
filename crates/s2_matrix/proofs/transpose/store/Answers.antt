use Rattle.std.proofs.Common.{◌≡◌, ℕ, ◌+◌, not, eqb, List, get_or, ap, ◌∙◌, arith}
use Rattle.s2_matrix.proofs.Blocks.{bit_test, fills_first, fills_more}
use Rattle.s2_matrix.proofs.transpose.store.Goals as goal

pub returns : goal.returns
returns c f is =
    let at = c.args.at in
    let bits = c.args.bits.now in
    let told = λ (k : ℕ) (v : List ℕ). not (eqb (get_or v k 0) 0) in
    let none : at + 0 ≡ at = omega arith in
    let first = ap (told 0) is ∙ bit_test (f (at + 0)) ∙ ap f none in
    let second = ap (told 1) is ∙ bit_test (f (at + 1)) in
    let third = ap (told 2) is ∙ bit_test (f (at + 2)) in
    let fourth = ap (told 3) is ∙ bit_test (f (at + 3)) in
    let fifth = ap (told 4) is ∙ bit_test (f (at + 4)) in
    let sixth = ap (told 5) is ∙ bit_test (f (at + 5)) in
    let seventh = ap (told 6) is ∙ bit_test (f (at + 6)) in
    let eighth = ap (told 7) is ∙ bit_test (f (at + 7)) in
    let one = fills_first f at bits _ (omega (arith, c.requires)) first in
    let two = fills_more f at 1 bits _ _ (omega (arith, c.requires)) second one in
    let three = fills_more f at 2 bits _ _ (omega (arith, c.requires)) third two in
    let four = fills_more f at 3 bits _ _ (omega (arith, c.requires)) fourth three in
    let five = fills_more f at 4 bits _ _ (omega (arith, c.requires)) fifth four in
    let six = fills_more f at 5 bits _ _ (omega (arith, c.requires)) sixth five in
    let seven = fills_more f at 6 bits _ _ (omega (arith, c.requires)) seventh six in
    fills_more f at 7 bits _ _ (omega (arith, c.requires)) eighth seven
