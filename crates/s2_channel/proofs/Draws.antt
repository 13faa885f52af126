-- The noise of one component, and of one symbol more.
use Rattle.std.proofs.Common.{◌≡◌, ℕ, suc, ◌+◌, ◌<◌, List, [], ◌∷◌, ◌++◌, length, take, drop, set, pos, ◌+ℤ◌, sym, ap, ◌∙◌, append_assoc, arith}
use Rattle.std.proofs.lemmas.Grind.{flat_map-append}
use Rattle.std.proofs.lemmas.List.{take_more_set, drop-set-lt, at_drop_more}
use Rattle.rand_pcg.specs.Lcg.{Lcg}
use Rattle.rand_pcg.specs.Pcg.{pcg32}
use Rattle.s2_mode.specs.Symbols.{bytes_of_symbols, symbol, symbol_at, symbol_bytes}
use Rattle.s2_mode.specs.declared.symbols.Symbol.{Symbol}
use Rattle.s2_channel.specs.Noise.{draw, add, drawn_for, noisy, word_sum}
use Rattle.s2_channel.specs.declared.strength.Strength.{Strength}

-- two words
pub drawn_by : (l : Strength) (g g' g'' : Lcg) (first second : ℕ) → (first, g') ≡ pcg32 g → (second, g'') ≡ pcg32 g'
    → (word_sum l first +ℤ word_sum l second, g'') ≡ draw l g
unfolding draw
drawn_by l g g' g'' first second one two =
    ap (λ p. (word_sum l first +ℤ word_sum l p.0, p.1)) two
    ∙ ap (λ p. (word_sum l p.0 +ℤ word_sum l (pcg32 p.1).0, (pcg32 p.1).1)) one

-- the generator after a symbol
pub after_one : (l : Strength) (g g' : Lcg) (s t : Symbol) → (t, g') ≡ add l g s → g' ≡ (draw l (draw l g).1).1
unfolding add
after_one l g g' s t e = ap (λ p. p.1) e

-- the generator after one symbol more
pub drawn_more : (l : Strength) (n : ℕ) (g h h' : Lcg) (s t : Symbol) → h ≡ drawn_for l n g → (t, h') ≡ add l h s → h' ≡ drawn_for l (n + 1) g
drawn_more l n g h h' s t before drawn =
    let next : suc n ≡ n + 1 = omega arith in
    after_one l h h' s t drawn ∙ ap (λ x. (draw l (draw l x).1).1) before ∙ ap (λ k. drawn_for l k g) next

-- one symbol more of a list
pub added_more : (l : Strength) (g g' : Lcg) (symbols : List Symbol) (i : ℕ) (t : Symbol) → i < length symbols → (t, g') ≡ add l g (symbol_at symbols i)
    → bytes_of_symbols (take (i + 1) (set symbols i t)) ++ noisy l g' (drop (i + 1) (set symbols i t)) ≡ bytes_of_symbols (take i symbols) ++ noisy l g (drop i symbols)
added_more l g g' symbols i t h drawn =
    let front = bytes_of_symbols (take i symbols) in
    let rest = drop (i + 1) symbols in
    ap (λ ss. bytes_of_symbols ss ++ noisy l g' (drop (i + 1) (set symbols i t))) (take_more_set symbols i t h)
    ∙ ap (λ ss. bytes_of_symbols (take i symbols ++ t ∷ []) ++ noisy l g' ss) (drop-set-lt (i + 1) symbols i t (omega arith))
    ∙ ap (λ bs. bs ++ noisy l g' rest) (flat_map-append symbol_bytes (take i symbols) (t ∷ []))
    ∙ append_assoc front (bytes_of_symbols (t ∷ [])) (noisy l g' rest)
    ∙ ap (λ bs. front ++ bs) (ap (λ p. symbol_bytes p.0 ++ noisy l p.1 rest) drawn ∙ sym (at_drop_more (noisy l g) symbols i (symbol (pos 0) (pos 0)) h))
