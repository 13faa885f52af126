-- A word's value by Horner's rule.
use Rattle.std.specs.Prelude.{ℕ, suc, ◌≡◌, ◌<◌, Bool, true, false, List, [], ◌∷◌, length}
use Rattle.std.proofs.Common.{sym, ◌∙◌, ap, ap₂}
use Rattle.s2_field.specs.Operations.{Operations}
use Rattle.s2_field.specs.Laws.{FieldLaws}
use Rattle.s2_field.specs.Polynomials.{pow}
use Rattle.s2_bch.specs.Values.{value_at, HasRoots}
use Rattle.s2_bch.proofs.LocatorTheory.{zero-mul, zero-add as nil-add, add-mul}

module _ {F : Type 0} (field : Operations F) where
  -- the value with b as the next coefficient
  abbrev pub with_bit : F → Bool → F
  with_bit v true = field.sum v field.one
  with_bit v false = v

  abbrev pub horner_of : F → List Bool → F → F
  horner_of v [] x = v
  horner_of v (b ∷ w) x = horner_of (with_bit (field.product v x) b) w x

module _ {F : Type 0} (field : Operations F) (L : FieldLaws field) where
  open L use {add_zero, add_assoc, mul_comm, mul_assoc, mul_one}

  abbrev power : F → ℕ → F
  power = pow field

  abbrev at : List Bool → F → F
  at = value_at field

  horner-value : (v : F) (w : List Bool) (x : F) → horner_of field v w x ≡ field.sum (field.product v (power x (length w))) (at w x)
  horner-value v [] x = sym (add_zero (field.product v field.one) ∙ mul_one v)
  horner-value v (true ∷ w) x =
      let p = power x (length w) in
      horner-value (field.sum (field.product v x) field.one) w x
      ∙ ap (λ u. field.sum u (at w x))
      (add-mul field L (field.product v x) field.one p ∙ ap₂ field.sum (mul_assoc v x p) (mul_comm field.one p ∙ mul_one p))
      ∙ add_assoc (field.product v (field.product x p)) p (at w x)
  horner-value v (false ∷ w) x =
      let p = power x (length w) in
      horner-value (field.product v x) w x
      ∙ ap₂ field.sum (mul_assoc v x p) (sym (nil-add field L (at w x)))

  pub by_horner : (w : List Bool) (x : F) → horner_of field field.zero w x ≡ value_at field w x
  by_horner w x =
      horner-value field.zero w x ∙ ap (λ v. field.sum v (at w x)) (zero-mul field L (power x (length w)))
      ∙ nil-add field L (at w x)

  pub roots_by_horner : (a : F) (r : ℕ) (g : List Bool)
      → ((j : ℕ) → j < r → horner_of field field.zero g (power a (suc j)) ≡ field.zero) → HasRoots field a r g
  roots_by_horner a r g h = record { root = λ j hj. sym (by_horner g (power a (suc j))) ∙ h j hj }
