-- Polynomials with as many different roots in a field as their degree (EN 302 307-1, 5.3.1).
use Rattle.std.specs.Prelude.{ℕ, ◌≡◌, ◌≢◌, ◌≤◌, List, [], ◌∷◌, length, ⊤}
use Rattle.s2_field.specs.Operations.{Operations}
use Rattle.s2_field.specs.Polynomials.{pow, eval}

-- P holds of each element
abbrev pub Each : {X : Type 0} → (X → Type 0) → List X → Type 0
Each P [] = ⊤
Each P (x ∷ xs) = P x × Each P xs

-- no two elements are equal
abbrev pub AllDiffer : {X : Type 0} → List X → Type 0
AllDiffer [] = ⊤
AllDiffer (x ∷ xs) = Each (λ y. y ≢ x) xs × AllDiffer xs

module _ {F : Type 0} (field : Operations F) where
  -- y is a root of x^d + low, where low has d coefficients
  abbrev pub IsRoot : List F → F → Type 0
  IsRoot low y = eval field low y ≡ pow field y (length low)

  -- xs are different roots of x^d + low, at least d of them, and elements of the field of q elements
  pub record AreItsRoots (q : ℕ) (low xs : List F) : Type 0 where
    pub enough : length low ≤ length xs
    pub differ : AllDiffer xs
    pub roots : Each (λ x. IsRoot low x) xs
    pub elements : Each (λ x. pow field x q ≡ x) xs
