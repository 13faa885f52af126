-- How many bits of a header and of a window differ, counted bit by bit and as ones of a number.
use Rattle.std.proofs.Common.{◌≡◌, ℕ, zero, suc, ◌+◌, ◌-◌, ◌*◌, ◌/◌, ◌%◌, ◌^◌, ◌<◌, ◌≤◌, ◌≢◌, Bool, true, false, List, [], ◌∷◌, ◌++◌, get_or, length, length-append, length-drop, add-one, map, pos, not, min, max, bit_xor, inl, inr, refl, sym, ap, subst, ◌∙◌, arith}
use Rattle.std.specs.Prelude.{◌==◌, ◌&&◌, ◌||◌, nat_le, if◌then◌else◌}
use Rattle.std.specs.Int.{bit_at as digit}
use Rattle.std.specs.Int.RustNames.{count_ones}
use Rattle.std.specs.Int.Count.{ones, ones_in, ones_step}
use Rattle.std.specs.Int.Bits.{bit_and, bit_or}
use Rattle.std.proofs.lemmas.Bool.{cases_lt, eqb-true, lt-ltb, le-ltb}
use Rattle.std.proofs.lemmas.Nat.{shr-shr, and_le_r, or_lt, xor_lt}
use Rattle.std.proofs.lemmas.Nat.Bits.{bit_at_lowest, bit_at-suc, bit_at_and, bit_at_or, bit_at_xor, bit_at_cat_low, bit_at-lt}
use Rattle.std.proofs.lemmas.List.{get_or_append_left, get_or-append_right, get_or-drop}
use Rattle.std.proofs.lemmas.List.FromFn.{fill_by_all, get_or-map-range_with_len, length-map-range_with_len}
use Rattle.std.proofs.Math.Pow.{pow_mono}
use Rattle.std.proofs.Math.Nat.{pow-suc, add_comm}
use Rattle.std.proofs.lemmas.Bool.Decides.{eqb_tells}
use Rattle.std.specs.Bool.{beq}
use mir.Val.{bool_byte}
use Rattle.s2_bits.specs.Bits.{xor, number}
use Rattle.s2_bits.proofs.Bytes.{byte_of_bit}
use Rattle.s2_bits.proofs.Sums.{xor_code}
use Rattle.s2_plframe.proofs.Payloads.{number_small}
use Rattle.std.proofs.Math.ListN.{get_or-map}
use Rattle.s2_mode.specs.declared.symbols.Symbol.{Symbol}
use Rattle.s2_mode.specs.Symbols.{symbol, symbol_at}
use Rattle.s2_mode.specs.Mode.{Mode}
use Rattle.s2_plframe.specs.Header.{header_bit, dummy_mode}
use Rattle.s2_plframe.specs.declared.receive.found.Found.TheVariants as founds
use Rattle.s2_plframe.specs.Search.{Decision, decision, decided, mismatches, matches_header, decision_at, found}
use Rattle.s2_plframe.specs.Inside.{held, held_list, is_near, found_by, AreHeaders, IsHeader, IsWindow}

-- ---- differences

pub bit_number : (n i : ℕ) → number (digit n i == 1) ≡ digit n i
bit_number n i =
    let small : digit n i < 2 = bit_at-lt n i in
    elim (eqb_tells (digit n i) 1) [
      | inl same ↦ let is : digit n i ≡ 1 = same.1 in ap number same.0 ∙ sym is
      | inr other ↦ let ne : digit n i ≢ 1 = other.1 in let is : digit n i ≡ 0 = omega arith in ap number other.0 ∙ sym is
    ]

number_xor : (a b : Bool) → number (xor a b) ≡ (number b + number a) % 2
number_xor true true = refl
number_xor true false = refl
number_xor false true = refl
number_xor false false = refl

difference : (header : ℕ → Bool) (window : List Decision) (h w k : ℕ) → IsHeader header h → IsWindow window w → k < 90 → number (xor (decided window k) (header k)) ≡ digit (bit_xor h w) (89 - k)
difference header window h w k is_h is_w lt =
    number_xor (decided window k) (header k)
    ∙ sym (bit_at_xor h w (89 - k) ∙ (λ t. (is_h.bits k lt t + is_w.bits k lt t) % 2))

ones_none : count_ones 0 ≡ 0
unfolding ones ones_in
ones_none = refl

-- the highest n digits of x
pub counted : (header : ℕ → Bool) (window : List Decision) (h w n : ℕ) → IsHeader header h → IsWindow window w → n ≤ 90 → mismatches header window n ≡ count_ones (bit_xor h w / 2 ^ (90 - n))
unfolding mismatches
counted header window h w zero is_h is_w le =
    let small : bit_xor h w < 2 ^ 90 = xor_lt 90 h w is_h.small is_w.small in
    let none : bit_xor h w / 1237940039285380274899124224 ≡ 0 = omega arith in
    sym (ap count_ones none ∙ ones_none)
counted header window h w (suc n) is_h is_w le =
    let x = bit_xor h w in
    let place : 90 - suc n ≡ 89 - n = omega arith in
    let next : 89 - n + 1 ≡ 90 - n = omega arith in
    let inside : n ≤ 90 = omega arith in
    let half : x / 2 ^ (89 - n) / 2 ≡ x / 2 ^ (90 - n) = shr-shr x (89 - n) 1 ∙ ap (λ m. x / 2 ^ m) next in
    let e = counted header window h w n is_h is_w inside in
    let d = difference header window h w n is_h is_w (omega arith) in
    let step : count_ones (x / 2 ^ (89 - n)) ≡ x / 2 ^ (89 - n) % 2 + count_ones (x / 2 ^ (89 - n) / 2) = ones_step (x / 2 ^ (89 - n)) in
    (λ t. e t + d t) ∙ (add_comm (count_ones (x / 2 ^ (90 - n))) (digit x (89 - n)) ∙ sym (ap (λ m. count_ones (x / 2 ^ m)) place ∙ (step ∙ ap (λ m. digit x (89 - n) + count_ones m) half)))

-- how many bits differ by numbers is how many differ by bits
pub wrong_is : (header : ℕ → Bool) (window : List Decision) (h w : ℕ) → IsHeader header h → IsWindow window w → count_ones (bit_xor h w) ≡ mismatches header window 90
wrong_is header window h w is_h is_w =
    let all : 90 ≤ 90 = omega arith in
    let whole : bit_xor h w / 1 ≡ bit_xor h w = omega arith in
    sym (counted header window h w 90 is_h is_w all ∙ ap count_ones whole)

-- and so is the test
pub test_is : (header : ℕ → Bool) (window : List Decision) (h w : ℕ) → IsHeader header h → IsWindow window w → is_near h w ≡ matches_header header window
test_is header window h w is_h is_w = ap (λ n. nat_le n 12) (wrong_is header window h w is_h is_w)

-- ---- counted one by one

pub mismatches_more : (header : ℕ → Bool) (window : List Decision) (n : ℕ) → mismatches header window (n + 1) ≡ mismatches header window n + number (xor (decided window n) (header n))
unfolding mismatches
mismatches_more header window n = ap (mismatches header window) (add-one n)

pub mismatches_none : (header : ℕ → Bool) (window : List Decision) → mismatches header window 0 ≡ 0
unfolding mismatches
mismatches_none header window = refl

pub byte_xor : (a b x y : Bool) (r : ℕ) → r ≡ bool_byte (not (beq a b)) → a ≡ x → b ≡ y → r ≡ number (xor x y)
byte_xor a b x y r is p q = is ∙ (byte_of_bit (not (beq a b)) ∙ (ap number (xor_code a b) ∙ (λ t. number (xor (p t) (q t)))))

pub decided_symbols : (symbols : List Symbol) (k : ℕ) → (if k % 2 == 0 then (decision (symbol_at symbols k)).odd else (decision (symbol_at symbols k)).even) ≡ decided (map decision symbols) k
decided_symbols symbols k =
    let at : decision_at (map decision symbols) k ≡ decision (symbol_at symbols k) = get_or-map decision symbols k (symbol (pos 0) (pos 0)) in
    sym (λ t. if k % 2 == 0 then (at t).odd else (at t).even)
