-- A message's division, a byte at a time.
use Rattle.std.specs.Prelude.{ℕ, ◌≡◌, ◌+◌, ◌-◌, ◌*◌, ◌^◌, ◌<◌, ◌≤◌, bit_xor, refl, Bool, true, false, List, [], ◌∷◌, ◌++◌, length, take, drop, replicate}
use Rattle.std.proofs.Common.{sym, ◌∙◌, ap, ap₂, subst, arith, length-take, length-drop, get_or}
use Rattle.std.proofs.lemmas.List.{get_or-drop, drop-drop}
use Rattle.std.proofs.Math.Seq.{take-add}
use Rattle.std.proofs.Math.ListN.{length-replicate}
use Rattle.s2_bits.specs.Bits.{bit_at, byte_at, number, number_of}
use Rattle.s2_bch.specs.Words.{register_after}
use Rattle.s2_bch.proofs.WordFacts.{length-after}
use Rattle.s2_bch.specs.Division.{steps}
use Rattle.s2_bch.proofs.DivisionFacts.{register-steps, number_of-parts}
use Rattle.s2_bch.specs.declared.register.Register.{Register}
use Rattle.s2_bch.specs.Registers.{value_of, Holds, IsTableFor}
use Rattle.s2_bch.proofs.RegisterFacts.{zeros-number}

pub take_end : (w : List Bool) → take (length w) w ≡ w
take_end [] = refl
take_end (b ∷ w) = ap (λ u. b ∷ u) (take_end w)

pub after_append : (t r u w : List Bool) → register_after t r (u ++ w) ≡ register_after t (register_after t r u) w
after_append t r [] w = refl
after_append t r (b ∷ u) w = after_append t _ u w

-- ---- eight bits as a byte

eight : (v : List Bool) → 8 ≤ length v
    → take 8 v
    ≡ get_or v 0 false ∷ get_or v 1 false ∷ get_or v 2 false ∷ get_or v 3 false ∷ get_or v 4 false ∷ get_or v 5 false ∷ get_or v 6 false
    ∷ get_or v 7 false ∷ []
eight (a ∷ b ∷ c ∷ d ∷ e ∷ f ∷ g ∷ h ∷ v) le = refl
eight [] le = absurd (omega arith)
eight (a ∷ []) le = absurd (omega arith)
eight (a ∷ b ∷ []) le = absurd (omega arith)
eight (a ∷ b ∷ c ∷ []) le = absurd (omega arith)
eight (a ∷ b ∷ c ∷ d ∷ []) le = absurd (omega arith)
eight (a ∷ b ∷ c ∷ d ∷ e ∷ []) le = absurd (omega arith)
eight (a ∷ b ∷ c ∷ d ∷ e ∷ f ∷ []) le = absurd (omega arith)
eight (a ∷ b ∷ c ∷ d ∷ e ∷ f ∷ g ∷ []) le = absurd (omega arith)

digit-at : (w : List Bool) (at k : ℕ) → number (bit_at w (at + k)) ≡ number (get_or (drop at w) k false)
digit-at w at k = sym (ap number (get_or-drop at w k false))

eight-number : (a b c d e f g h : Bool) → number_of (a ∷ b ∷ c ∷ d ∷ e ∷ f ∷ g ∷ h ∷ [])
    ≡ 128 * number a + 64 * number b + 32 * number c + 16 * number d + 8 * number e + 4 * number f + 2 * number g + number h
eight-number a b c d e f g h = omega arith

pub byte-number : (w : List Bool) (at : ℕ) → at + 8 ≤ length w → byte_at w at ≡ number_of (take 8 (drop at w))
byte-number w at h =
    let long : 8 ≤ length (drop at w) = omega (arith, length-drop at w) in
    let whole = ap number_of (eight (drop at w) long) ∙ eight-number _ _ _ _ _ _ _ _ in
    let digit = digit-at w at in
    omega (arith, whole, digit 0, digit 1, digit 2, digit 3, digit 4, digit 5, digit 6, digit 7)

-- a number of bits that is made of two halves
pub number_of-joined : (k : ℕ) (w : List Bool) (at : ℕ) → at + (k + k) ≤ length w
    → number_of (take (k + k) (drop at w)) ≡ number_of (take k (drop at w)) * 2 ^ k + number_of (take k (drop (at + k) w))
number_of-joined k w at h =
    let long : length (take k (drop (at + k) w)) ≡ k = omega (arith, length-take {A = Bool}, length-drop {A = Bool}) in
    ap number_of (take-add k k (drop at w) ∙ ap (λ u. take k (drop at w) ++ take k u) (drop-drop k at w))
    ∙ number_of-parts (take k (drop at w)) (take k (drop (at + k) w))
    ∙ ap (λ n. number_of (take k (drop at w)) * 2 ^ n + number_of (take k (drop (at + k) w))) long

-- what is left of a message, from zeros
abbrev pub divided : List Bool → List Bool → List Bool
divided t m = register_after t (replicate (length t) false) m

pub length-divided : (t m : List Bool) → length (divided t m) ≡ length t
length-divided t m = length-after t (replicate (length t) false) m ∙ length-replicate (length t) false

pub holds_zeros : (r : Register) (t : List Bool) → length t ≤ 192 → value_of r ≡ 0 → Holds r (replicate (length t) false)
holds_zeros r t h z =
    let p = 2 ^ (192 - length (replicate (length t) false)) in
    let none : 0 * p ≡ 0 = omega arith in
    record {
      fits = omega (arith, length-replicate (length t) false);
      value = z ∙ sym (ap (λ x. x * p) (zeros-number (length t)) ∙ none);
    }

-- k more bits of the message
pub holds_more : (k : ℕ) (t : List Bool) (table : List Register) (m : List Bool) (at : ℕ) (r s : Register) (bits : ℕ) → IsTableFor t table
    → k ≤ 192 → at + k ≤ length m → Holds r (divided t (take at m)) → bits ≡ number_of (take k (drop at m))
    → value_of s ≡ steps 192 (number_of t * 2 ^ (192 - length t)) k (bit_xor (value_of r) (bits * 2 ^ (192 - k)))
    → Holds s (divided t (take (at + k) m))
holds_more k t table m at r s bits T few h hr eb es =
    let u : List Bool = divided t (take at m) in
    let w : List Bool = take k (drop at m) in
    let low : ℕ = number_of t * 2 ^ (192 - length t) in
    let lw : length w ≡ k = omega (arith, length-take {A = Bool}, length-drop {A = Bool}) in
    let lu : length u ≡ length t = length-divided t (take at m) in
    let lr : length (register_after t u w) ≡ length t = length-after t u w ∙ lu in
    let whole : length t + (192 - length t) ≡ 192 = omega (arith, T.fits) in
    let positive : 0 < 192 = omega arith in
    let short : length w ≤ 192 = omega arith in
    let held : value_of r ≡ number_of u * 2 ^ (192 - length t) = hr.value ∙ ap (λ i. number_of u * 2 ^ (192 - i)) lu in
    let stepped : number_of (register_after t u w) * 2 ^ (192 - length t)
    ≡ steps 192 low (length w) (bit_xor (number_of u * 2 ^ (192 - length t)) (number_of w * 2 ^ (192 - length w))) =
    register-steps 192 low positive t (192 - length t) whole T.some refl w u lu short in
    subst (Holds s)
    (sym (ap (divided t) (take-add at k m) ∙ after_append t (replicate (length t) false) (take at m) w))
    (record {
      fits = omega (arith, lr, T.fits);
      value = es
          ∙ ap₂ (λ x y. steps 192 low k (bit_xor x (y * 2 ^ (192 - k)))) held eb
          ∙ sym (stepped ∙ ap (λ i. steps 192 low i (bit_xor (number_of u * 2 ^ (192 - length t)) (number_of w * 2 ^ (192 - i)))) lw)
          ∙ ap (λ i. number_of (register_after t u w) * 2 ^ (192 - i)) (sym lr);
    })
