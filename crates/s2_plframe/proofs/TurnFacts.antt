-- Headers and frames that are rotated by quarter turns.
use Rattle.std.proofs.Common.{◌≡◌, ℕ, zero, suc, ◌+◌, ◌-◌, ◌%◌, ◌<◌, ◌≤◌, negsuc, Bool, true, false, cond, List, [], ◌∷◌, length, length-take, take, map, pos, not, inl, inr, refl, sym, ap, ◌∙◌, arith, min, drop, get_or, ext_get_or, ℤ}
use Rattle.std.specs.Prelude.{◌==◌, ◌&&◌, nat_eq, nat_le, ltb, if◌then◌else◌, neg_ℤ, int_lt, ◌+ℤ◌, ◌-ℤ◌}
use Rattle.std.specs.List.{range_with_len}
use Rattle.std.proofs.lemmas.Int.{ints}
use Rattle.std.proofs.lemmas.Bool.{leb-true, lt-leb, le-leb, lt-ltb, le-ltb}
use Rattle.std.proofs.lemmas.Bool.Decides.{eqb_tells}
use Rattle.std.proofs.lemmas.List.{length-map, get_or-take, get_or-map as map_at}
use Rattle.std.proofs.lemmas.List.FromFn.{get_or-map-range_with_len, length-map-range_with_len}
use Rattle.std.proofs.lemmas.Simd.{map-map}
use Rattle.std.proofs.Math.ListN.{get_or-map}
use Rattle.s2_mode.specs.declared.symbols.Symbol.{Symbol}
use Rattle.s2_mode.specs.Symbols.{symbol, symbol_at}
use Rattle.s2_mode.specs.Mode.{Mode, IsMode, symbols_in}
use Rattle.s2_mode.proofs.Modes.{at_each, frame_sizes}
use Rattle.s2_bits.specs.Bits.{xor, number}
use Rattle.s2_scramble.specs.Rotations.{rotated, rotated_back}
use Rattle.s2_plframe.specs.Header.{header_bit, header_point, header_symbol, header_of, dummy_mode, sum_of_rows}
use Rattle.s2_plframe.specs.Frame.{frame_symbol, frame_symbols}
use Rattle.s2_plframe.specs.Search.{Decision, decision, decided, mismatches, wrong_bits, wrong_bits_dummy, found, found_behind}
use Rattle.s2_plframe.specs.Turns.{Sides, Sought, sides, side_at, sought_of, turned_back, turned_window, least_of, first_least, wrong_at, wrong_dummy_at, found_of, nearest_of, found_in, behind_in, turn_of, derotated}
use Rattle.s2_plframe.specs.HeaderLaws.{differences, seen_of, IsTurnedFrame}
use Rattle.s2_plframe.specs.Payload.{AllRotateBack}
use Rattle.s2_plframe.specs.declared.receive.found.Found.TheVariants as founds
use Rattle.s2_plframe.proofs.HeaderFacts.{header_at, seen_last}
use Rattle.s2_plframe.proofs.HeadersBehind.{none_dummy}
use Rattle.s2_plframe.proofs.Mismatches.{decided_symbols}
use Rattle.s2_plframe.proofs.Payloads.{undone}

-- ---- decisions in each rotation

-- the sign of a sum, and of its negative
flipped : (c : ℤ) → int_lt (pos 0) c ≡ int_lt (neg_ℤ c) (pos 0)
flipped (pos zero) = refl
flipped (pos (suc n)) = lt-ltb 0 (suc n) (omega arith)
flipped (negsuc n) = sym (le-ltb (suc n) 0 (omega arith))

less : (a b : ℤ) → b ≡ neg_ℤ a → int_lt (pos 0) a ≡ int_lt b (pos 0)
less a b is = flipped a ∙ ap (λ (c : ℤ). int_lt c (pos 0)) (sym is)

pub side_is : (t : ℕ) (s : Symbol) → t < 4 → side_at t (sides true s) ≡ decision (turned_back t s)
side_is zero s lt = refl
side_is (suc zero) s lt =
    let a : s.q -ℤ s.i ≡ s.q +ℤ neg_ℤ s.i = omega (arith, ints) in
    let b : neg_ℤ s.i -ℤ s.q ≡ neg_ℤ (s.i +ℤ s.q) = omega (arith, ints) in
    λ t. record { odd = int_lt (a t) (pos 0); even = less (s.i +ℤ s.q) (neg_ℤ s.i -ℤ s.q) b t }
side_is (suc (suc zero)) s lt =
    let a : neg_ℤ s.i +ℤ neg_ℤ s.q ≡ neg_ℤ (s.i +ℤ s.q) = omega (arith, ints) in
    let b : neg_ℤ s.q -ℤ neg_ℤ s.i ≡ neg_ℤ (s.q -ℤ s.i) = omega (arith, ints) in
    λ t. record { odd = less (s.i +ℤ s.q) (neg_ℤ s.i +ℤ neg_ℤ s.q) a t; even = less (s.q -ℤ s.i) (neg_ℤ s.q -ℤ neg_ℤ s.i) b t }
side_is (suc (suc (suc zero))) s lt =
    let a : neg_ℤ s.q +ℤ s.i ≡ neg_ℤ (s.q -ℤ s.i) = omega (arith, ints) in
    let b : s.i +ℤ s.q ≡ s.i -ℤ neg_ℤ s.q = omega (arith, ints) in
    λ t. record { odd = less (s.q -ℤ s.i) (neg_ℤ s.q +ℤ s.i) a t; even = int_lt (b t) (pos 0) }
side_is (suc (suc (suc (suc t)))) s lt = absurd (omega arith)

pub straight_is : (symbols : List Symbol) → map (λ (x : Sides). x.straight) (map (sides false) symbols) ≡ map decision symbols
straight_is symbols = map-map _ _ symbols

-- 90 symbols are the last 90 of themselves
pub seen_whole : (symbols : List Symbol) → length symbols ≡ 90 → seen_of true symbols ≡ map (sides true) symbols
seen_whole symbols long =
    let none : length symbols - 90 ≡ 0 = omega arith in
    seen_last true symbols ∙ ap (λ n. map (sides true) (drop n symbols)) none

-- a list whose symbols are those of another, rotated back
pub map_by_all : (t : ℕ) (symbols out : List Symbol) → t < 4 → length out ≡ length symbols → ((j : ℕ) → j < length symbols → symbol_at out j ≡ rotated_back t (symbol_at symbols j)) → out ≡ map (rotated_back t) symbols
map_by_all t symbols out few long each =
    let none : Symbol = symbol (pos 0) (pos 0) in
    ext_get_or none out (map (rotated_back t) symbols) (long ∙ sym (length-map symbols (rotated_back t)))
    (λ j lt. let inside : j < length symbols = omega arith in each j inside ∙ sym (map_at (rotated_back t) symbols j none none inside))

-- the bit of a header that arrived rotated by s quarters, after it was rotated back by t: a quarter more or less leaves a sum of
-- zero, which says no one
unfoldable pub seen_bit : ℕ → ℕ → Bool → Bool
seen_bit t s b = if nat_eq t s then b else (if nat_eq ((t + 2) % 4) s then not b else false)

turned_odd : (t s : ℕ) (b : Bool) → t < 4 → s < 4 → (decision (turned_back t (rotated s (if b then symbol (negsuc 699) (negsuc 699) else symbol (pos 700) (pos 700))))).odd ≡ seen_bit t s b
unfolding seen_bit
turned_odd zero zero true lt_t lt_s = refl
turned_odd zero zero false lt_t lt_s = refl
turned_odd zero (suc zero) true lt_t lt_s = refl
turned_odd zero (suc zero) false lt_t lt_s = refl
turned_odd zero (suc (suc zero)) true lt_t lt_s = refl
turned_odd zero (suc (suc zero)) false lt_t lt_s = refl
turned_odd zero (suc (suc (suc zero))) true lt_t lt_s = refl
turned_odd zero (suc (suc (suc zero))) false lt_t lt_s = refl
turned_odd zero (suc (suc (suc (suc n)))) b lt_t lt_s = absurd (omega arith)
turned_odd (suc zero) zero true lt_t lt_s = refl
turned_odd (suc zero) zero false lt_t lt_s = refl
turned_odd (suc zero) (suc zero) true lt_t lt_s = refl
turned_odd (suc zero) (suc zero) false lt_t lt_s = refl
turned_odd (suc zero) (suc (suc zero)) true lt_t lt_s = refl
turned_odd (suc zero) (suc (suc zero)) false lt_t lt_s = refl
turned_odd (suc zero) (suc (suc (suc zero))) true lt_t lt_s = refl
turned_odd (suc zero) (suc (suc (suc zero))) false lt_t lt_s = refl
turned_odd (suc zero) (suc (suc (suc (suc n)))) b lt_t lt_s = absurd (omega arith)
turned_odd (suc (suc zero)) zero true lt_t lt_s = refl
turned_odd (suc (suc zero)) zero false lt_t lt_s = refl
turned_odd (suc (suc zero)) (suc zero) true lt_t lt_s = refl
turned_odd (suc (suc zero)) (suc zero) false lt_t lt_s = refl
turned_odd (suc (suc zero)) (suc (suc zero)) true lt_t lt_s = refl
turned_odd (suc (suc zero)) (suc (suc zero)) false lt_t lt_s = refl
turned_odd (suc (suc zero)) (suc (suc (suc zero))) true lt_t lt_s = refl
turned_odd (suc (suc zero)) (suc (suc (suc zero))) false lt_t lt_s = refl
turned_odd (suc (suc zero)) (suc (suc (suc (suc n)))) b lt_t lt_s = absurd (omega arith)
turned_odd (suc (suc (suc zero))) zero true lt_t lt_s = refl
turned_odd (suc (suc (suc zero))) zero false lt_t lt_s = refl
turned_odd (suc (suc (suc zero))) (suc zero) true lt_t lt_s = refl
turned_odd (suc (suc (suc zero))) (suc zero) false lt_t lt_s = refl
turned_odd (suc (suc (suc zero))) (suc (suc zero)) true lt_t lt_s = refl
turned_odd (suc (suc (suc zero))) (suc (suc zero)) false lt_t lt_s = refl
turned_odd (suc (suc (suc zero))) (suc (suc (suc zero))) true lt_t lt_s = refl
turned_odd (suc (suc (suc zero))) (suc (suc (suc zero))) false lt_t lt_s = refl
turned_odd (suc (suc (suc zero))) (suc (suc (suc (suc n)))) b lt_t lt_s = absurd (omega arith)
turned_odd (suc (suc (suc (suc n)))) s b lt_t lt_s = absurd (omega arith)

turned_even : (t s : ℕ) (b : Bool) → t < 4 → s < 4 → (decision (turned_back t (rotated s (if b then symbol (pos 700) (negsuc 699) else symbol (negsuc 699) (pos 700))))).even ≡ seen_bit t s b
unfolding seen_bit
turned_even zero zero true lt_t lt_s = refl
turned_even zero zero false lt_t lt_s = refl
turned_even zero (suc zero) true lt_t lt_s = refl
turned_even zero (suc zero) false lt_t lt_s = refl
turned_even zero (suc (suc zero)) true lt_t lt_s = refl
turned_even zero (suc (suc zero)) false lt_t lt_s = refl
turned_even zero (suc (suc (suc zero))) true lt_t lt_s = refl
turned_even zero (suc (suc (suc zero))) false lt_t lt_s = refl
turned_even zero (suc (suc (suc (suc n)))) b lt_t lt_s = absurd (omega arith)
turned_even (suc zero) zero true lt_t lt_s = refl
turned_even (suc zero) zero false lt_t lt_s = refl
turned_even (suc zero) (suc zero) true lt_t lt_s = refl
turned_even (suc zero) (suc zero) false lt_t lt_s = refl
turned_even (suc zero) (suc (suc zero)) true lt_t lt_s = refl
turned_even (suc zero) (suc (suc zero)) false lt_t lt_s = refl
turned_even (suc zero) (suc (suc (suc zero))) true lt_t lt_s = refl
turned_even (suc zero) (suc (suc (suc zero))) false lt_t lt_s = refl
turned_even (suc zero) (suc (suc (suc (suc n)))) b lt_t lt_s = absurd (omega arith)
turned_even (suc (suc zero)) zero true lt_t lt_s = refl
turned_even (suc (suc zero)) zero false lt_t lt_s = refl
turned_even (suc (suc zero)) (suc zero) true lt_t lt_s = refl
turned_even (suc (suc zero)) (suc zero) false lt_t lt_s = refl
turned_even (suc (suc zero)) (suc (suc zero)) true lt_t lt_s = refl
turned_even (suc (suc zero)) (suc (suc zero)) false lt_t lt_s = refl
turned_even (suc (suc zero)) (suc (suc (suc zero))) true lt_t lt_s = refl
turned_even (suc (suc zero)) (suc (suc (suc zero))) false lt_t lt_s = refl
turned_even (suc (suc zero)) (suc (suc (suc (suc n)))) b lt_t lt_s = absurd (omega arith)
turned_even (suc (suc (suc zero))) zero true lt_t lt_s = refl
turned_even (suc (suc (suc zero))) zero false lt_t lt_s = refl
turned_even (suc (suc (suc zero))) (suc zero) true lt_t lt_s = refl
turned_even (suc (suc (suc zero))) (suc zero) false lt_t lt_s = refl
turned_even (suc (suc (suc zero))) (suc (suc zero)) true lt_t lt_s = refl
turned_even (suc (suc (suc zero))) (suc (suc zero)) false lt_t lt_s = refl
turned_even (suc (suc (suc zero))) (suc (suc (suc zero))) true lt_t lt_s = refl
turned_even (suc (suc (suc zero))) (suc (suc (suc zero))) false lt_t lt_s = refl
turned_even (suc (suc (suc zero))) (suc (suc (suc (suc n)))) b lt_t lt_s = absurd (omega arith)
turned_even (suc (suc (suc (suc n)))) s b lt_t lt_s = absurd (omega arith)

turned_point : (t s k : ℕ) (b : Bool) → t < 4 → s < 4
    → (if k % 2 == 0 then (decision (turned_back t (rotated s (header_point k b)))).odd else (decision (turned_back t (rotated s (header_point k b)))).even) ≡ seen_bit t s b
turned_point t s k b lt_t lt_s = elim (eqb_tells (k % 2) 0) [
  | inl same ↦ rw same.0 (turned_odd t s b lt_t lt_s)
  | inr other ↦ rw other.0 (turned_even t s b lt_t lt_s)
]

window_turned : (t : ℕ) (symbols : List Symbol) → t < 4 → turned_window t (map (sides true) symbols) ≡ map decision (map (turned_back t) symbols)
window_turned t symbols lt =
    map-map _ _ symbols ∙ ap (λ (f : Symbol → Decision). map f symbols) (λ i x. side_is t x lt i) ∙ sym (map-map _ _ symbols)

zero_turned : (t s : ℕ) → t < 4 → s < 4 → turned_back t (rotated s (symbol (pos 0) (pos 0))) ≡ symbol (pos 0) (pos 0)
zero_turned zero zero a b = refl
zero_turned zero (suc zero) a b = refl
zero_turned zero (suc (suc zero)) a b = refl
zero_turned zero (suc (suc (suc zero))) a b = refl
zero_turned (suc zero) zero a b = refl
zero_turned (suc zero) (suc zero) a b = refl
zero_turned (suc zero) (suc (suc zero)) a b = refl
zero_turned (suc zero) (suc (suc (suc zero))) a b = refl
zero_turned (suc (suc zero)) zero a b = refl
zero_turned (suc (suc zero)) (suc zero) a b = refl
zero_turned (suc (suc zero)) (suc (suc zero)) a b = refl
zero_turned (suc (suc zero)) (suc (suc (suc zero))) a b = refl
zero_turned (suc (suc (suc zero))) zero a b = refl
zero_turned (suc (suc (suc zero))) (suc zero) a b = refl
zero_turned (suc (suc (suc zero))) (suc (suc zero)) a b = refl
zero_turned (suc (suc (suc zero))) (suc (suc (suc zero))) a b = refl
zero_turned zero (suc (suc (suc (suc n)))) a b = absurd (omega arith)
zero_turned (suc zero) (suc (suc (suc (suc n)))) a b = absurd (omega arith)
zero_turned (suc (suc zero)) (suc (suc (suc (suc n)))) a b = absurd (omega arith)
zero_turned (suc (suc (suc zero))) (suc (suc (suc (suc n)))) a b = absurd (omega arith)
zero_turned (suc (suc (suc (suc n)))) s a b = absurd (omega arith)

-- the bits of a header's symbols that arrived rotated by s quarters
bits_turned : (t s : ℕ) (m : Mode) (symbols : List Symbol) (k : ℕ) → t < 4 → s < 4 → symbol_at symbols k ≡ header_symbol m k
    → decided (turned_window t (map (sides true) (map (rotated s) symbols))) k ≡ seen_bit t s (header_bit m k)
bits_turned t s m symbols k lt_t lt_s is =
    let f : Symbol → Symbol = λ x. turned_back t (rotated s x) in
    let none : Symbol = symbol (pos 0) (pos 0) in
    let window : turned_window t (map (sides true) (map (rotated s) symbols)) ≡ map decision (map f symbols) =
    window_turned t (map (rotated s) symbols) lt_t ∙ ap (map decision) (map-map _ _ symbols) in
    let at : symbol_at (map f symbols) k ≡ turned_back t (rotated s (header_point k (header_bit m k))) =
    ap (λ (d : Symbol). get_or (map f symbols) k d) (sym (zero_turned t s lt_t lt_s)) ∙ get_or-map f symbols k none ∙ ap f is in
    ap (λ (w : List Decision). decided w k) window ∙ sym (decided_symbols (map f symbols) k)
    ∙ (λ i. if k % 2 == 0 then (decision (at i)).odd else (decision (at i)).even) ∙ turned_point t s k (header_bit m k) lt_t lt_s

-- so many differ from a header
wrong_by : (bits header : ℕ → Bool) (window : List Decision) (n : ℕ) → ((k : ℕ) → k < n → decided window k ≡ bits k) → mismatches header window n ≡ differences bits header n
unfolding mismatches differences
wrong_by bits header window zero same = refl
wrong_by bits header window (suc n) same =
    let here = same n (omega arith) in
    let before = wrong_by bits header window n (λ k lt. same k (omega arith)) in
    λ i. before i + number (xor (here i) (header n))

pub wrong_turned : (t s : ℕ) (m other : Mode) (symbols : List Symbol) → t < 4 → s < 4 → ((k : ℕ) → k < 90 → symbol_at symbols k ≡ header_symbol m k)
    → wrong_bits (header_bit other) (turned_window t (map (sides true) (map (rotated s) symbols))) ≡ differences (λ k. seen_bit t s (header_bit m k)) (header_bit other) 90
wrong_turned t s m other symbols lt_t lt_s is = wrong_by (λ k. seen_bit t s (header_bit m k)) (header_bit other) _ 90 (λ k lt. bits_turned t s m symbols k lt_t lt_s (is k lt))
