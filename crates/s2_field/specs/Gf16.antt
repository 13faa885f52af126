-- The field of 2^16 elements, by x^16 + x^5 + x^3 + x^2 + 1 (EN 302 307-1, 5.3.1).
use Rattle.std.specs.Prelude.{ℕ, ◌≡◌, ◌<◌, ◌^◌, refl, List, [], ◌∷◌}
use Rattle.std.proofs.Common.{arith}
use Rattle.std.specs.Coded.{le_prop}
use mathlib.Core.HLevel.{is_prop→PathP}
use Rattle.s2_field.specs.Operations.{Operations}
use Rattle.s2_field.specs.declared.gf16.Gf16.{Gf16}
use Rattle.s2_field.specs.Laws.{FieldLaws, IsNumbered}
use Rattle.s2_field.specs.Elements.{field_of, laws_of}
use Rattle.s2_field.specs.Facts.{half_list_16, frobenius_16, kernel_16, walk_16, last_16}
use Rattle.s2_field.specs.Binary.{times}
use Rattle.s2_field.specs.Order.{iterate, order_of, power_product}
use Rattle.s2_field.specs.Polynomials.{HasOrder, pow, eval}

-- the number of an element
abbrev pub number : Gf16 → ℕ
number x = x.value

pub below : (x : Gf16) → number x < 2 ^ 16
below x = x.in_range

abbrev pub make : (n : ℕ) → n < 2 ^ 16 → Gf16
make n h = record { value = n; in_range = h }

pub same : (x y : Gf16) → number x ≡ number y → x ≡ y
same x y e = λ i. record { value = e i; in_range = is_prop→PathP (λ i. e i < 2 ^ 16) (λ i. le_prop) x.in_range y.in_range i }

pub sixteen : 0 < 16
sixteen = omega arith

pub low_fits : 45 < 2 ^ 16
low_fits = omega arith

-- the field of the numbers below 2^16, with exclusive or as sum and `times 16 45` as product
abbrev pub field : Operations Gf16
field = field_of 16 45 sixteen low_fits number below make (λ n h. refl) same

-- it satisfies the laws of a field
pub laws : FieldLaws field
laws = laws_of 16 45 sixteen low_fits number below make (λ n h. refl) same half_list_16 frobenius_16 kernel_16

pub two_fits : 2 < 2 ^ 16
two_fits = omega arith

-- a, the element 2, which is `x`
abbrev pub alpha : Gf16
alpha = make 2 two_fits

-- a has the order 65535, that of all nonzero elements
pub order : HasOrder field alpha 65535
order = order_of 16 45 sixteen low_fits number below make (λ n h. refl) same two_fits refl 65534 walk_16 last_16

-- what i steps make of x is the product with a^i
pub raised : (i : ℕ) (x y : Gf16) → number y ≡ iterate 16 45 i (number x) → y ≡ field.product (pow field alpha i) x
raised = power_product 16 45 sixteen low_fits number below make (λ n h. refl) same two_fits refl

-- its elements have different numbers, 0 to 65535
pub numbered : IsNumbered field.zero number 65535
numbered = record {
  at_zero = refl;
  most = λ a. let h = below a in omega arith;
  same = same;
  some = omega arith;
  small = omega arith;
}

-- the polynomial of the field, the constant first
abbrev pub polynomial : List Gf16
polynomial = field.one ∷ field.zero ∷ field.one ∷ field.one ∷ field.zero ∷ field.one ∷ field.zero ∷ field.zero ∷ field.zero ∷ field.zero ∷ field.zero ∷ field.zero ∷ field.zero ∷ field.zero ∷ field.zero ∷ field.zero ∷ field.one ∷ []

pub root : eval field polynomial alpha ≡ field.zero
unfolding times
root = same _ _ refl
