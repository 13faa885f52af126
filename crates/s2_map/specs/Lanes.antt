-- Eight symbols of 8PSK at a time: their labels, and their components as words of 16 bits, two's complement (own).
use Rattle.std.specs.Prelude.{ℕ, ◌+◌, ◌*◌, Bool, List, [], ◌∷◌}
use Rattle.std.specs.Int.{w16, cast_unsigned}
use Rattle.s2_mode.specs.declared.symbols.Symbol.{Symbol}
use Rattle.s2_mode.specs.Symbols.{symbol_at}
use Rattle.s2_bits.specs.Bits.{number}
use Rattle.s2_map.specs.Mapping.{psk_points}

-- three bits as a label
abbrev pub psk_label : Bool → Bool → Bool → ℕ
psk_label first second third = 4 * number first + 2 * number second + number third

-- the point of three bits
abbrev pub psk_point : Bool → Bool → Bool → Symbol
psk_point first second third = symbol_at psk_points (psk_label first second third)

-- eight numbers as the lanes of a vector
abbrev pub eight : (ℕ → ℕ) → List ℕ
eight f = f 0 ∷ f 1 ∷ f 2 ∷ f 3 ∷ f 4 ∷ f 5 ∷ f 6 ∷ f 7 ∷ []

-- the words of eight symbols
abbrev pub eight_words : (ℕ → Symbol) → List ℕ
eight_words f =
    cast_unsigned w16 (f 0).i ∷ cast_unsigned w16 (f 0).q ∷ cast_unsigned w16 (f 1).i ∷ cast_unsigned w16 (f 1).q
    ∷ cast_unsigned w16 (f 2).i ∷ cast_unsigned w16 (f 2).q ∷ cast_unsigned w16 (f 3).i ∷ cast_unsigned w16 (f 3).q
    ∷ cast_unsigned w16 (f 4).i ∷ cast_unsigned w16 (f 4).q ∷ cast_unsigned w16 (f 5).i ∷ cast_unsigned w16 (f 5).q
    ∷ cast_unsigned w16 (f 6).i ∷ cast_unsigned w16 (f 6).q ∷ cast_unsigned w16 (f 7).i ∷ cast_unsigned w16 (f 7).q ∷ []
