-- The laws of a field in which each element is its own negative, and of the numbers of its elements (EN 302 307-1,
-- 5.3.1).
use Rattle.std.specs.Prelude.{ℕ, ◌≡◌, ◌≢◌, ◌<◌, ◌≤◌, ◌^◌}
use Rattle.s2_field.specs.Operations.{Operations}

-- the laws of a field in which each element is its own negative
pub record FieldLaws {F : Type 0} (field : Operations F) : Type 0 where
  pub add_comm : (a b : F) → field.sum a b ≡ field.sum b a
  pub add_assoc : (a b c : F) → field.sum (field.sum a b) c ≡ field.sum a (field.sum b c)
  pub add_zero : (a : F) → field.sum a field.zero ≡ a
  pub add_self : (a : F) → field.sum a a ≡ field.zero
  pub mul_comm : (a b : F) → field.product a b ≡ field.product b a
  pub mul_assoc : (a b c : F) → field.product (field.product a b) c ≡ field.product a (field.product b c)
  pub mul_one : (a : F) → field.product a field.one ≡ a
  pub mul_add : (a b c : F) → field.product a (field.sum b c) ≡ field.sum (field.product a b) (field.product a c)
  pub mul_inv : (a : F) → a ≢ field.zero → field.product a (field.inverse a) ≡ field.one
  pub one_ne_zero : field.one ≢ field.zero

-- the elements have different numbers up to `order`, and zero's number is 0
pub record IsNumbered {F : Type 0} (zero : F) (number : F → ℕ) (order : ℕ) : Type 0 where
  pub at_zero : number zero ≡ 0
  pub most : (a : F) → number a ≤ order
  pub same : (a b : F) → number a ≡ number b → a ≡ b
  pub some : 0 < order
  pub small : order < 2 ^ 16
