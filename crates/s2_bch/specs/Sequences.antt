-- Sequences over a field, locators, and the shortest locator: the definitions (EN 302 307-1, 5.3.1).
use Rattle.std.specs.Prelude.{ℕ, zero, suc, ◌≡◌, ◌≢◌, ◌+◌, ◌<◌, ◌≤◌, List, [], ◌∷◌, length}
use Rattle.std.proofs.Common.{get_or}
use Rattle.s2_field.specs.Operations.{Operations}
use Rattle.s2_field.specs.Polynomials as P

module _ {F : Type 0} (field : Operations F) where
  abbrev power : F → ℕ → F
  power = P.pow field

  -- the sum of c x * x^j over the elements x
  abbrev pub power_sum : List F → (F → F) → ℕ → F
  power_sum [] c j = field.zero
  power_sum (x ∷ xs) c j = field.sum (field.product (c x) (power x j)) (power_sum xs c j)

  -- the sum of f's coefficients (the constant first) times the sequence's first terms
  abbrev pub dot : List F → (ℕ → F) → F
  dot [] s = field.zero
  dot (c ∷ f) s = field.sum (field.product c (s zero)) (dot f (λ j. s (suc j)))

  -- the sequence that has dot f of each rest of s
  abbrev pub discrepancies : List F → (ℕ → F) → ℕ → F
  discrepancies f s i = dot f (λ j. s (i + j))

  -- f of length d + 1 ends in 1
  abbrev pub IsMonic : ℕ → List F → Type 0
  IsMonic d [] = ⊥
  IsMonic zero (c ∷ f) = (c ≡ field.one) × (f ≡ [])
  IsMonic (suc d) (c ∷ f) = IsMonic d f

  -- a locator polynomial has discrepancies of zero, as far as the first n terms of a sequence show; d is its degree
  abbrev pub Annihilates : ℕ → ℕ → List F → (ℕ → F) → Type 0
  Annihilates n d f s = (i : ℕ) → i + d < n → discrepancies f s i ≡ field.zero

  abbrev pub plus : List F → List F → List F
  plus [] g = g
  plus (x ∷ f) [] = x ∷ f
  plus (x ∷ f) (y ∷ g) = field.sum x y ∷ plus f g

  abbrev pub scale : F → List F → List F
  scale a [] = []
  scale a (x ∷ f) = field.product a x ∷ scale a f

  abbrev pub shift : ℕ → List F → List F
  shift zero f = f
  shift (suc k) f = field.zero ∷ shift k f

  -- The polynomial f is the shortest monic locator of the first n terms. The auxiliary polynomial b, from which the
  -- next one is made, fails with delta one place before f's degree
  pub record Shortest (n d : ℕ) (f b : List F) (delta : F) (s : ℕ → F) : Type 0 where
    pub monic : IsMonic d f
    pub fits : d ≤ n
    pub annihilates : Annihilates n d f s
    pub least : (e : ℕ) (g : List F) → IsMonic e g → Annihilates n e g s → d ≤ e
    pub auxiliary_zero : (i : ℕ) → suc i < d → discrepancies b s i ≡ field.zero
    pub auxiliary_top : (i : ℕ) → suc i ≡ d → discrepancies b s i ≡ delta
    pub auxiliary_length : length b + d ≤ suc n
    pub nonzero : delta ≢ field.zero

-- the list's elements, and then zeros
abbrev pub sequence_of : {F : Type 0} → F → List F → ℕ → F
sequence_of nil xs j = get_or xs j nil
