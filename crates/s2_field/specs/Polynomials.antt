-- Powers of an element of a field, and polynomials by their coefficients, the constant first (EN 302 307-1, 5.3.1).
use Rattle.s2_field.specs.Operations.{Operations}
use Rattle.std.specs.Prelude.{ℕ, zero, suc, ◌≡◌, ◌≢◌, ◌+◌, ◌<◌, ◌≤◌, List, [], ◌∷◌}
use Rattle.std.proofs.Common.{get_or}

module _ {F : Type 0} (field : Operations F) where
  -- x^n
  abbrev pub pow : F → ℕ → F
  pow x zero = field.one
  pow x (suc n) = field.product x (pow x n)

  -- the polynomial at x
  abbrev pub eval : List F → F → F
  eval [] x = field.zero
  eval (c ∷ f) x = field.sum c (field.product x (eval f x))

  -- a has the order n: a^n is 1, and no smaller power with a positive exponent is
  pub record HasOrder (a : F) (n : ℕ) : Type 0 where
    pub power : pow a n ≡ field.one
    pub least : (i : ℕ) → 0 < i → i < n → pow a i ≢ field.one

-- all coefficients from place d on are zero
abbrev pub IsZeroFrom : {F : Type 0} → F → ℕ → List F → Type 0
IsZeroFrom nil d f = (i : ℕ) → d ≤ i → get_or f i nil ≡ nil

-- d is the last place with a coefficient that is not zero
pub record IsDegree {F : Type 0} (nil : F) (d : ℕ) (f : List F) : Type 0 where
  pub top : get_or f d nil ≢ nil
  pub above : IsZeroFrom nil (d + 1) f
