-- Symbols that are written are read back.
use Rattle.std.proofs.Common.{◌≡◌, ℕ, ◌^◌, ◌<◌, List, [], ◌∷◌, ◌++◌, ℤ, SFits, w16, refl, ap, ◌∙◌, arith}
use Rattle.std.specs.Int.{cast_signed, cast_unsigned, to_be_bytes, from_be_bytes}
use Rattle.std.proofs.lemmas.Int.{ints, to_z-of_z}
use Rattle.std.proofs.lemmas.Nat.{from_be_bytes-to_be_bytes_2}
use Rattle.std.proofs.lemmas.List.Elements.{All-head, All-tail}
use Rattle.s2_mode.specs.Symbols.{symbols_of, symbol_bytes, bytes_of_symbols, IsSymbol, SymbolsBackLaw}
use Rattle.s2_mode.specs.declared.symbols.Symbol.{Symbol}

component_back : (c : ℤ) → SFits w16 c → cast_signed w16 (from_be_bytes w16 (to_be_bytes w16 (cast_unsigned w16 c))) ≡ c
component_back c h =
    let small : cast_unsigned w16 c < 2 ^ 16 = omega (arith, ints) in
    ap (cast_signed w16) (from_be_bytes-to_be_bytes_2 (cast_unsigned w16 c) small) ∙ to_z-of_z w16 c h

symbol_back : (s : Symbol) → IsSymbol s → (rest : List ℕ) → symbols_of (symbol_bytes s ++ rest) ≡ s ∷ symbols_of rest
symbol_back s h rest =
    let made : ℤ → ℤ → Symbol = λ i q. record { i = i; q = q } in
    ap (λ i. made i (cast_signed w16 (from_be_bytes w16 (to_be_bytes w16 (cast_unsigned w16 s.q)))) ∷ symbols_of rest) (component_back s.i h.i)
    ∙ ap (λ q. made s.i q ∷ symbols_of rest) (component_back s.q h.q)

pub symbols_back : SymbolsBackLaw
symbols_back [] h = refl
symbols_back (s ∷ symbols) h =
    symbol_back s (All-head IsSymbol s symbols h) (bytes_of_symbols symbols)
    ∙ ap (λ rest. s ∷ rest) (symbols_back symbols (All-tail IsSymbol s symbols h))
