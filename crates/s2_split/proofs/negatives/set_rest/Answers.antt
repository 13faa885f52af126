use Rattle.std.proofs.Common.{rules, ◌≡◌, ◌<◌, Bool, true, false, not, length, get_or, set, get_or-set_same, pos, int_lt, w32, to_z, of_z, refl, sym, ap, ◌∙◌, subst, arith}
use Rattle.std.proofs.Math.Bool.{beq}
use Rattle.std.proofs.lemmas.Bool.{both_ways}
use Rattle.std.proofs.lemmas.Int.{to_z-of_z}
use Rattle.s2_matrix.specs.Code.{code_of}
use Rattle.s2_split.specs.Kept.{AreCounted}
use Rattle.s2_split.proofs.Counted.{set_turned, set_same_sign, counted_same}
use Rattle.s2_split.proofs.negatives.set_rest.Goals as goal
use Rattle.s2_split.proofs.negatives.set_rest.Goals.{then-rests-bit, else-rests-bit}

same : (a b : Bool) → not (beq a b) ≡ false → b ≡ a
same true true h = refl
same false false h = refl
same true false h = absurd (both_ways true h refl)
same false true h = absurd (both_ways true h refl)

apart : (a b : Bool) → not (beq a b) ≡ true → a ≡ not b
apart true false h = refl
apart false true h = refl
apart true true h = absurd (both_ways false refl h)
apart false false h = absurd (both_ways false refl h)

pub change_sign-requires-clause-turns : goal.change_sign-requires-clause-turns
change_sign-requires-clause-turns c = record {
  rests = c.args.rests.now;
  counted = c.requires.counted;
  changes = sym (ap (λ u. int_lt u (pos 0)) (to_z-of_z w32 (get_or c.args.rests.now c.args.bit (pos 0)) (search rules))) ∙ apart _ _ c.if-rests-bit.true;
}

pub returns-clause-counted : goal.returns-clause-counted
returns-clause-counted c =
    let code = code_of c.args.matrix.now in
    let rests = c.args.rests.now in
    let bit = c.args.bit in
    let v = to_z w32 (of_z w32 c.args.rest) in
    let low : bit < length rests = omega (arith, c.requires.bit, c.requires.rests) in
    let was = to_z-of_z w32 (get_or rests bit (pos 0)) (search rules) in
    elim c.if-rests-bit.branch [
      | then-rests-bit w ↦ (
          let turned = w.change_sign.ensures.counted (record { rests = rests; counted = c.requires.counted; changes = sym (ap (λ u. int_lt u (pos 0)) was) ∙ apart _ _ w.if-rests-bit.true }) (set rests bit v) (set_turned rests bit v) (ap (λ u. int_lt u (pos 0)) (get_or-set_same rests bit v (pos 0) low)) in
          subst (AreCounted code (set rests bit v)) (sym w.negatives-is) turned
          )
      | else-rests-bit w ↦ (
          let sign = same _ _ w.if-rests-bit.false ∙ ap (λ u. int_lt u (pos 0)) was in
          let still = counted_same code rests (set rests bit v) c.args.negatives.now c.requires.counted (set_same_sign rests bit v low sign) in
          subst (AreCounted code (set rests bit v)) (sym w.negatives-is) still
          )
    ]
