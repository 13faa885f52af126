-- A word's value at an element of a field, and its roots (EN 302 307-1, 5.3.1).
use Rattle.std.specs.Prelude.{ℕ, suc, ◌≡◌, ◌≢◌, ◌<◌, Bool, true, false, List, [], ◌∷◌, length}
use Rattle.s2_field.specs.Operations.{Operations}
use Rattle.s2_field.specs.Polynomials.{pow}

-- v if the bit is set, else zero
abbrev pub pick : {F : Type 0} → F → Bool → F → F
pick nil true v = v
pick nil false v = nil

module _ {F : Type 0} (field : Operations F) where
  -- a word's value at x: the sum of the powers of x at its ones, the first bit the highest power
  abbrev pub value_at : List Bool → F → F
  value_at [] x = field.zero
  value_at (b ∷ w) x = field.sum (pick field.zero b (pow field x (length w))) (value_at w x)

  -- the powers of a below the bound differ
  pub record AllPowersDiffer (a : F) (bound : ℕ) : Type 0 where
    pub differ : (i j : ℕ) → i < j → j < bound → pow field a i ≢ pow field a j

  -- a, a^2 and so on, r of them, are roots of g
  pub record HasRoots (a : F) (r : ℕ) (g : List Bool) : Type 0 where
    pub root : (j : ℕ) → j < r → value_at g (pow field a (suc j)) ≡ field.zero

  -- at a, a^2 and so on, r of them, v and w have the same values
  pub record HaveSameValues (a : F) (r : ℕ) (v w : List Bool) : Type 0 where
    pub same : (j : ℕ) → j < r → value_at v (pow field a (suc j)) ≡ value_at w (pow field a (suc j))
