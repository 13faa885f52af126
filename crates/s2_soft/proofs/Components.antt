-- Components of symbols one after another.
use Rattle.std.proofs.Common.{◌≡◌, ℕ, ◌+◌, ◌*◌, ◌/◌, ◌%◌, ◌<◌, suc, zero, List, [], ◌∷◌, get_or, ℤ, pos, refl, ap, sym, ◌∙◌, arith, w16}
use Rattle.std.specs.Int.{cast_unsigned}
use Rattle.std.proofs.lemmas.Int.{to_z-of_z}
use Rattle.s2_mode.specs.declared.symbols.Symbol.{Symbol}
use Rattle.s2_mode.specs.Symbols.{symbol_at}
use Rattle.s2_bits.specs.Lanes.{lane}
use Rattle.s2_bits.specs.Lanes16.{signed16}
use Rattle.s2_soft.specs.Lanes.{component_at}
use mir.Val.{SFits}

even : (payload : List Symbol) (b : ℕ) → b % 2 ≡ 0 → component_at payload b ≡ (symbol_at payload (b / 2)).i
even payload b is = rw is refl

odd : (payload : List Symbol) (b : ℕ) → b % 2 ≡ 1 → component_at payload b ≡ (symbol_at payload (b / 2)).q
odd payload b is = rw is refl

pub is_i : (payload : List Symbol) (b s : ℕ) → b ≡ 2 * s → component_at payload b ≡ (symbol_at payload s).i
is_i payload b s at =
    let bit : b % 2 ≡ 0 = omega arith in
    let half : b / 2 ≡ s = omega arith in
    even payload b bit ∙ ap (λ s. (symbol_at payload s).i) half

pub is_q : (payload : List Symbol) (b s : ℕ) → b ≡ 2 * s + 1 → component_at payload b ≡ (symbol_at payload s).q
is_q payload b s at =
    let bit : b % 2 ≡ 1 = omega arith in
    let half : b / 2 ≡ s = omega arith in
    odd payload b bit ∙ ap (λ s. (symbol_at payload s).q) half

-- a fact of eight lanes, lane by lane
pub by_eight : (P : ℕ → Type 0) → P 0 → P 1 → P 2 → P 3 → P 4 → P 5 → P 6 → P 7 → (k : ℕ) → k < 8 → P k
by_eight P a b c d e f g h zero lt = a
by_eight P a b c d e f g h (suc zero) lt = b
by_eight P a b c d e f g h (suc (suc zero)) lt = c
by_eight P a b c d e f g h (suc (suc (suc zero))) lt = d
by_eight P a b c d e f g h (suc (suc (suc (suc zero)))) lt = e
by_eight P a b c d e f g h (suc (suc (suc (suc (suc zero))))) lt = f
by_eight P a b c d e f g h (suc (suc (suc (suc (suc (suc zero)))))) lt = g
by_eight P a b c d e f g h (suc (suc (suc (suc (suc (suc (suc zero))))))) lt = h
by_eight P a b c d e f g h (suc (suc (suc (suc (suc (suc (suc (suc k)))))))) lt = absurd (omega (arith, lt))

pub eight_words : (f : ℕ → ℤ) (a b c d e g h i : ℕ) → signed16 a ≡ f 0 → signed16 b ≡ f 1 → signed16 c ≡ f 2 → signed16 d ≡ f 3 → signed16 e ≡ f 4 → signed16 g ≡ f 5 → signed16 h ≡ f 6 → signed16 i ≡ f 7
    → (k : ℕ) → k < 8 → signed16 (lane (a ∷ b ∷ c ∷ d ∷ e ∷ g ∷ h ∷ i ∷ []) k) ≡ f k
eight_words f a b c d e g h i = by_eight (λ k. signed16 (lane (a ∷ b ∷ c ∷ d ∷ e ∷ g ∷ h ∷ i ∷ []) k) ≡ f k)

pub eight_values : (f : ℕ → ℤ) (a b c d e g h i : ℤ) → a ≡ f 0 → b ≡ f 1 → c ≡ f 2 → d ≡ f 3 → e ≡ f 4 → g ≡ f 5 → h ≡ f 6 → i ≡ f 7
    → (k : ℕ) → k < 8 → get_or (a ∷ b ∷ c ∷ d ∷ e ∷ g ∷ h ∷ i ∷ []) k (pos 0) ≡ f k
eight_values f a b c d e g h i = by_eight (λ k. get_or (a ∷ b ∷ c ∷ d ∷ e ∷ g ∷ h ∷ i ∷ []) k (pos 0) ≡ f k)

-- the word of a component
pub word_of : (z y : ℤ) → SFits w16 z → y ≡ z → signed16 (cast_unsigned w16 z) ≡ y
word_of z y fits same = to_z-of_z w16 z fits ∙ sym same
