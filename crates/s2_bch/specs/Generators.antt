-- The generators (EN 302 307-1, 5.3.1): products of the minimal polynomials of a, a^3, a^5 and so on.
use Rattle.std.specs.Prelude.{ℕ, Bool, true, List, [], ◌∷◌, take, map, if◌then◌else◌}
use Rattle.s2_bits.specs.Bits.{bits_of_number}
use Rattle.s2_bch.specs.Words.{product}
use Rattle.s2_mode.specs.Mode.{Mode, t_of}

-- the minimal polynomials of a, a^3, .., a^23 in the field of 2^16 elements, x^i at bit i
abbrev pub minimal_16 : List ℕ
minimal_16 = 65581 ∷ 65907 ∷ 69565 ∷ 88661 ∷ 73519 ∷ 128949 ∷ 110437 ∷ 95079 ∷ 69281 ∷ 95655 ∷ 80429 ∷ 72419 ∷ []

-- and in the field of 2^14 elements
abbrev pub minimal_14 : List ℕ
minimal_14 = 16427 ∷ 18753 ∷ 17991 ∷ 21905 ∷ 27477 ∷ 25481 ∷ 27877 ∷ 20257 ∷ 17935 ∷ 23113 ∷ 22545 ∷ 26095 ∷ []

-- the product of some polynomials
abbrev pub product_of_all : List (List Bool) → List Bool
product_of_all [] = true ∷ []
product_of_all (f ∷ fs) = product f (product_of_all fs)

-- the product of the minimal polynomials of a, a^3, .., a^(2t-1), the highest power first
unfoldable pub generator_16 : ℕ → List Bool
generator_16 t = product_of_all (map (bits_of_number 17) (take t minimal_16))

unfoldable pub generator_14 : ℕ → List Bool
generator_14 t = product_of_all (map (bits_of_number 15) (take t minimal_14))

-- the generator of a mode's code
unfoldable pub generator_of : Mode → List Bool
generator_of m = if m.short then generator_14 (t_of m) else generator_16 (t_of m)
