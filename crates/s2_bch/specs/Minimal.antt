-- Minimal polynomials, and the generator as their product (EN 302 307-1, 5.3.1).
use Rattle.std.specs.Prelude.{ℕ, zero, suc, ◌≡◌, ◌≢◌, ◌+◌, ◌*◌, ◌<◌, Bool, true, false, List, [], ◌∷◌, length, reverse}
use Rattle.std.proofs.Common.{get_or}
use Rattle.s2_field.specs.Operations.{Operations}
use Rattle.s2_field.specs.Polynomials.{pow}
use Rattle.s2_bch.specs.Sequences.{plus, scale}
use Rattle.s2_bch.specs.Generators.{product_of_all}

module _ {F : Type 0} (field : Operations F) where
  -- bits as elements of the field
  abbrev pub elements : List Bool → List F
  elements [] = []
  elements (true ∷ w) = field.one ∷ elements w
  elements (false ∷ w) = field.zero ∷ elements w

  -- b^(2^i)
  abbrev pub conjugate : ℕ → F → F
  conjugate zero b = b
  conjugate (suc i) b = conjugate i (field.product b b)

  -- the product of x + b^(2^i) for i < k, the constant first
  abbrev pub conjugate_product : ℕ → F → List F
  conjugate_product zero b = field.one ∷ []
  conjugate_product (suc k) b =
      let p = conjugate_product k (field.product b b) in
      plus field (field.zero ∷ p) (scale field b p)

  -- f, the highest power first, is the minimal polynomial of b: the product of x + b^(2^i) for i < m, and none of these
  -- elements but the first is b
  pub record IsMinimal (m : ℕ) (b : F) (f : List Bool) : Type 0 where
    pub product : elements (reverse f) ≡ conjugate_product m b
    pub others : (i : ℕ) → 0 < i → i < m → conjugate i b ≢ b

  -- g is the product of the minimal polynomials of a, a^3, .., a^(2t-1)
  pub record IsProductOfMinimals (m t : ℕ) (a : F) (g : List Bool) : Type 0 where
    pub factors : List (List Bool)
    pub count : length factors ≡ t
    pub each : (j : ℕ) → j < t → IsMinimal m (pow field a (1 + 2 * j)) (get_or factors j [])
    pub product : product_of_all factors ≡ g
