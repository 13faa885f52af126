-- Level 0 changes nothing.
use Rattle.std.proofs.Common.{◌≡◌, ℕ, zero, suc, ◌*◌, ◌/◌, ◌<◌, [], ◌∷◌, ◌++◌, length, take, get_or, ℤ, pos, ◌-ℤ◌, int_div, FitsSigned, refl, sym, ap, ◌∙◌, arith}
use Rattle.std.proofs.lemmas.Int.{ints, clamps, of_z-to_z}
use Rattle.std.proofs.lemmas.List.Elements.{All-head, All-tail}
use Rattle.std.proofs.lemmas.Nat.{be_bytes_2}
use Rattle.std.proofs.Math.Facts.{sfits_to_z}
use Rattle.std.proofs.Math.IntN.{*ℤ-zero}
use Rattle.std.specs.Int.{w16, cast_signed, cast_unsigned, from_be_bytes, to_be_bytes}
use Rattle.s2_mode.specs.Symbols.{symbol_of, symbols_of, symbol_bytes}
use Rattle.s2_channel.specs.Noise.{draw, level_gain, moved, add, noisy}
use Rattle.s2_channel.specs.Laws.{silence, SilentLaw, SilentStreamLaw}

no_gain : (d : ℤ) → level_gain 0 d ≡ pos 0
unfolding level_gain
no_gain d = ap (λ z. int_div z (pos 256)) (*ℤ-zero (d -ℤ pos 1020))

unmoved : (x d : ℤ) → FitsSigned w16 x → moved silence x d ≡ x
unfolding moved
unmoved x d fits = let none = no_gain d in omega (arith, ints, clamps, none, fits)

pub silent : SilentLaw
unfolding add
silent g s i q = λ x.
    let between = (draw silence g).1 in
    (record { i = unmoved s.i (draw silence g).0 i x; q = unmoved s.q (draw silence between).0 q x }, (draw silence between).1)

both_small : (a b : ℕ) → a < 256 → b < 256 → (i : ℕ) → get_or (a ∷ b ∷ []) i 0 < 256
both_small a b ha hb zero = ha
both_small a b ha hb (suc zero) = hb
both_small a b ha hb (suc (suc i)) = omega arith

pair_small : (a b : ℕ) → a < 256 → b < 256 → from_be_bytes w16 (a ∷ b ∷ []) < 65536
pair_small a b ha hb = omega arith

fits : (a b : ℕ) → a < 256 → b < 256 → FitsSigned w16 (cast_signed w16 (from_be_bytes w16 (a ∷ b ∷ [])))
fits a b ha hb = sfits_to_z {w = w16} {n = from_be_bytes w16 (a ∷ b ∷ [])} (record { fits = pair_small a b ha hb })

bytes_again : (a b : ℕ) → a < 256 → b < 256 → to_be_bytes w16 (cast_unsigned w16 (cast_signed w16 (from_be_bytes w16 (a ∷ b ∷ [])))) ≡ a ∷ b ∷ []
bytes_again a b ha hb =
    let n = from_be_bytes w16 (a ∷ b ∷ []) in
    ap (to_be_bytes w16) (of_z-to_z w16 n (pair_small a b ha hb)) ∙ be_bytes_2 (a ∷ b ∷ []) n refl (both_small a b ha hb) refl

four_more : (n : ℕ) → suc (suc (suc (suc n))) / 4 * 4 ≡ suc (suc (suc (suc (n / 4 * 4))))
four_more n = omega arith

pub silent_stream : SilentStreamLaw
silent_stream g [] h = refl
silent_stream g (a ∷ []) h = refl
silent_stream g (a ∷ b ∷ []) h = refl
silent_stream g (a ∷ b ∷ c ∷ []) h = refl
silent_stream g (a ∷ b ∷ c ∷ d ∷ rest) h =
    let P : ℕ → Type 0 = λ x. x < 256 in
    let h1 = All-tail P a (b ∷ c ∷ d ∷ rest) h in
    let h2 = All-tail P b (c ∷ d ∷ rest) h1 in
    let h3 = All-tail P c (d ∷ rest) h2 in
    let ha = All-head P a (b ∷ c ∷ d ∷ rest) h in
    let hb = All-head P b (c ∷ d ∷ rest) h1 in
    let hc = All-head P c (d ∷ rest) h2 in
    let hd = All-head P d rest h3 in
    let s = symbol_of a b c d in
    let same = silent g s (fits a b ha hb) (fits c d hc hd) in
    let next = (draw silence (draw silence g).1).1 in
    ap (λ p. symbol_bytes p.0 ++ noisy silence p.1 (symbols_of rest)) same
    ∙ ap (λ front. front ++ noisy silence next (symbols_of rest)) ((λ j. bytes_again a b ha hb j ++ bytes_again c d hc hd j))
    ∙ ap (λ back. a ∷ b ∷ c ∷ d ∷ back) (silent_stream next rest (All-tail P d rest h3))
    ∙ sym (ap (λ n. take n (a ∷ b ∷ c ∷ d ∷ rest)) (four_more (length rest)))
