-- The bits of a byte, put together from those of its halves.
use Rattle.std.proofs.Common.{◌≡◌, ℕ, ◌<◌, ◌/◌, ◌%◌, Bool, true, false, List, [], ◌∷◌, get_or, map, refl, sym, ap, ◌∙◌, arith}
use Rattle.std.specs.List.{range_with_len}
use Rattle.std.proofs.lemmas.List.FromFn.{get_or-map-range_with_len}
use Rattle.s2_bits.specs.Bits.{bits_of_byte}

-- the rows of the table
abbrev pub nibbles : List (List Bool)
nibbles =
    (false ∷ false ∷ false ∷ false ∷ [])
    ∷ (false ∷ false ∷ false ∷ true ∷ [])
    ∷ (false ∷ false ∷ true ∷ false ∷ [])
    ∷ (false ∷ false ∷ true ∷ true ∷ [])
    ∷ (false ∷ true ∷ false ∷ false ∷ [])
    ∷ (false ∷ true ∷ false ∷ true ∷ [])
    ∷ (false ∷ true ∷ true ∷ false ∷ [])
    ∷ (false ∷ true ∷ true ∷ true ∷ [])
    ∷ (true ∷ false ∷ false ∷ false ∷ [])
    ∷ (true ∷ false ∷ false ∷ true ∷ [])
    ∷ (true ∷ false ∷ true ∷ false ∷ [])
    ∷ (true ∷ false ∷ true ∷ true ∷ [])
    ∷ (true ∷ true ∷ false ∷ false ∷ [])
    ∷ (true ∷ true ∷ false ∷ true ∷ [])
    ∷ (true ∷ true ∷ true ∷ false ∷ [])
    ∷ (true ∷ true ∷ true ∷ true ∷ []) ∷ []

abbrev pub half : ℕ → List Bool
half n = get_or nibbles n []

abbrev pub spelt : ℕ → ℕ → List Bool
spelt high low =
    get_or (half high) 0 false ∷ get_or (half high) 1 false ∷ get_or (half high) 2 false ∷ get_or (half high) 3 false
    ∷ get_or (half low) 0 false ∷ get_or (half low) 1 false ∷ get_or (half low) 2 false ∷ get_or (half low) 3 false ∷ []

-- all bytes at once
all_spelt : map (λ b. spelt (b / 16) (b % 16)) (range_with_len 0 256) ≡ map bits_of_byte (range_with_len 0 256)
unfolding bits_of_byte
all_spelt = refl

pub spelt-bits : (b : ℕ) → b < 256 → spelt (b / 16) (b % 16) ≡ bits_of_byte b
spelt-bits b fits =
    sym (get_or-map-range_with_len (λ b. spelt (b / 16) (b % 16)) 0 256 b b [] fits (omega arith))
    ∙ ap (λ rows. get_or rows b []) all_spelt
    ∙ get_or-map-range_with_len bits_of_byte 0 256 b b [] fits (omega arith)
