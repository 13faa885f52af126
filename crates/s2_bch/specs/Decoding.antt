-- BCH decoding as a function (EN 302 307-1, 5.3.1): the codeword within t places of some bits, if there is one. It is
-- what a decoder must return. It goes through all codewords, so nobody computes it.
use Rattle.std.specs.Prelude.{ℕ, zero, suc, nat_le, Bool, true, false, List, [], ◌∷◌, ◌++◌, map, length, Option}
use Rattle.std.specs.List.{find}
use Rattle.s2_bits.specs.Bits.{differences}
use Rattle.s2_mode.specs.Mode.{Mode, kbch_of, t_of}
use Rattle.s2_bch.specs.Words.{product}
use Rattle.s2_bch.specs.Generators.{generator_of}

-- all lists of n bits
unfoldable pub all_lists : ℕ → List (List Bool)
all_lists zero = [] ∷ []
all_lists (suc n) = map (λ bits. false ∷ bits) (all_lists n) ++ map (λ bits. true ∷ bits) (all_lists n)

-- all words of the code: the products of the generator by a polynomial of Kbch coefficients
unfoldable pub all_words : Mode → List (List Bool)
all_words m = map (λ quotient. product quotient (generator_of m)) (all_lists (kbch_of m))

-- decoding as a function, which is never computed: the first word of the code that differs from these bits in at most t
-- places, or none
unfoldable pub nearest : Mode → List Bool → Option (List Bool)
nearest m bits = find (λ word. nat_le (differences (length bits) bits word) (t_of m)) (all_words m)
