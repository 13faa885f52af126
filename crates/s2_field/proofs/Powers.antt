-- Powers by squares.
use Rattle.std.specs.Prelude.{ℕ, zero, suc, ◌≡◌, ◌+◌, ◌/◌, ◌%◌, refl}
use Rattle.std.proofs.Common.{sym, ◌∙◌, ap, arith}
use Rattle.s2_field.specs.Operations.{Operations}
use Rattle.s2_field.specs.Laws.{FieldLaws}
use Rattle.s2_field.specs.Polynomials as P

module _ {F : Type 0} (field : Operations F) (L : FieldLaws field) where
  open L use {mul_comm, mul_assoc, mul_one}

  abbrev power : F → ℕ → F
  power = P.pow field

  pow-square : (x : F) (n : ℕ) → power (field.product x x) n ≡ power x (n + n)
  pow-square x zero = refl
  pow-square x (suc n) =
      let e : suc n + suc n ≡ suc (suc (n + n)) = omega arith in
      mul_assoc x x (power (field.product x x) n) ∙ ap (λ v. field.product x (field.product x v)) (pow-square x n) ∙ sym (ap (power x) e)

  pub pow_odd : (p x : F) (n : ℕ) → n % 2 ≡ 1 → field.product (field.product p x) (P.pow field (field.product x x) (n / 2)) ≡ field.product p (P.pow field x n)
  pow_odd p x n h =
      let e : n ≡ suc (n / 2 + n / 2) = omega arith in
      mul_assoc p x (power (field.product x x) (n / 2))
      ∙ ap (λ v. field.product p (field.product x v)) (pow-square x (n / 2))
      ∙ sym (ap (λ k. field.product p (power x k)) e)

  pub pow_even : (p x : F) (n : ℕ) → n % 2 ≡ 0 → field.product p (P.pow field (field.product x x) (n / 2)) ≡ field.product p (P.pow field x n)
  pow_even p x n h =
      let e : n ≡ n / 2 + n / 2 = omega arith in
      ap (field.product p) (pow-square x (n / 2) ∙ sym (ap (power x) e))

  pub one-mul : (x : F) → field.product field.one x ≡ x
  one-mul x = mul_comm field.one x ∙ mul_one x
