-- A word flipped at the places whose powers of a are roots of f (EN 302 307-1, 5.3.1).
use Rattle.std.specs.Prelude.{ℕ, ◌≡◌, ◌≢◌, ◌-◌, Bool, true, false, List, [], ◌∷◌, length, slice_index_or, ⊤}
use Rattle.s2_field.specs.Operations.{Operations}
use Rattle.s2_field.specs.Polynomials.{pow, eval}
use Rattle.s2_bits.specs.Bits.{xor}

-- a word's bit at a place that is counted from its end
abbrev pub bit_from_end : List Bool → ℕ → Bool
bit_from_end w e = slice_index_or w (length w - 1 - e) false

module _ {F : Type 0} (field : Operations F) where
  -- exactly the bits at whose powers of a the polynomial is zero are flipped
  abbrev pub FlipsRoots : F → List F → List Bool → List Bool → Type 0
  FlipsRoots a f [] [] = ⊤
  FlipsRoots a f [] (c ∷ u) = ⊥
  FlipsRoots a f (b ∷ w) [] = ⊥
  FlipsRoots a f (b ∷ w) (c ∷ u) =
      (eval field f (pow field a (length w)) ≡ field.zero → c ≡ xor true b)
      × (eval field f (pow field a (length w)) ≢ field.zero → c ≡ b)
      × FlipsRoots a f w u
