-- Four symbols in the lanes of a vector: their components as words of 16 bits, two's complement (own).
use Rattle.std.specs.Prelude.{ℕ, List, [], ◌∷◌}
use Rattle.std.specs.Int.{w16, cast_unsigned}
use Rattle.s2_mode.specs.declared.symbols.Symbol.{Symbol}

-- the words of four symbols, I before Q
abbrev pub words_of : Symbol → Symbol → Symbol → Symbol → List ℕ
words_of a b c d =
    cast_unsigned w16 a.i ∷ cast_unsigned w16 a.q ∷ cast_unsigned w16 b.i ∷ cast_unsigned w16 b.q
    ∷ cast_unsigned w16 c.i ∷ cast_unsigned w16 c.q ∷ cast_unsigned w16 d.i ∷ cast_unsigned w16 d.q ∷ []
