-- Facts of the header test.
use Rattle.std.proofs.Common.{◌≡◌, ℕ, zero, suc, ◌+◌, ◌-◌, ◌*◌, ◌%◌, ◌<◌, ◌≤◌, negsuc, Bool, true, false, List, [], ◌∷◌, ◌++◌, length, length-append, length-drop, length-take, take, drop, map, pos, inl, inr, refl, sym, ap, ◌∙◌, arith, min}
use Rattle.std.specs.Prelude.{◌==◌, ◌||◌, nat_le, if◌then◌else◌}
use Rattle.std.proofs.lemmas.Bool.{false≢true, leb-true, lt-leb, le-leb, lt-ltb, le-ltb}
use Rattle.std.proofs.lemmas.Bool.Decides.{eqb_tells, leb_tells}
use Rattle.std.proofs.lemmas.List.{get_or-take, length-map, map-append, drop-drop, drop-append-le}
use Rattle.std.proofs.lemmas.List.FromFn.{fill_by_all, get_or-map-range_with_len, length-map-range_with_len}
use Rattle.s2_mode.specs.declared.symbols.Symbol.{Symbol}
use Rattle.s2_mode.specs.Symbols.{symbol, symbol_at}
use Rattle.s2_mode.specs.Mode.{Mode, IsMode, slots_of, symbols_in}
use Rattle.s2_mode.proofs.Modes.{at_each, frame_sizes}
use Rattle.s2_bits.specs.Bits.{xor, number}
use Rattle.s2_bits.proofs.Sums.{xor_same}
use Rattle.s2_plframe.specs.Header.{header_bit, header_point, header_symbol, header_of, dummy_mode, sum_of_rows}
use Rattle.s2_plframe.specs.Frame.{frame_symbol, frame_symbols}
use Rattle.s2_plframe.specs.Search.{Decision, decision, decided, mismatches, matches_header, matches_dummy, wrong_bits, wrong_bits_dummy, found, found_behind}
use Rattle.s2_plframe.specs.Turns.{Sides, sides, recent, found_of, nearest_of}
use Rattle.s2_plframe.specs.declared.receive.found.Found.{Found}
use Rattle.s2_plframe.specs.HeaderLaws.{seen_of, differences, HoldsFrame}
use Rattle.s2_plframe.specs.declared.receive.found.Found.TheVariants as founds
use Rattle.s2_plframe.specs.Payload.{AllRotateBack}
use Rattle.s2_plframe.proofs.Payloads.{payload_again}
use Rattle.s2_plframe.proofs.Mismatches.{decided_symbols}

-- ---- a header without noise

no_mismatch : (header : ℕ → Bool) (window : List Decision) (n : ℕ) → ((k : ℕ) → k < n → decided window k ≡ header k) → mismatches header window n ≡ 0
unfolding mismatches
no_mismatch header window zero same = refl
no_mismatch header window (suc n) same =
    let here : number (xor (decided window n) (header n)) ≡ 0 = ap (λ b. number (xor b (header n))) (same n (omega arith)) ∙ ap number (xor_same (header n)) in
    let before : mismatches header window n ≡ 0 = no_mismatch header window n (λ k lt. same k (omega arith)) in
    omega arith

point_says_odd : (b : Bool) → (decision (if b then symbol (negsuc 699) (negsuc 699) else symbol (pos 700) (pos 700))).odd ≡ b
point_says_odd true = refl
point_says_odd false = refl

point_says_even : (b : Bool) → (decision (if b then symbol (pos 700) (negsuc 699) else symbol (negsuc 699) (pos 700))).even ≡ b
point_says_even true = refl
point_says_even false = refl

point_says : (k : ℕ) (b : Bool) → (if k % 2 == 0 then (decision (header_point k b)).odd else (decision (header_point k b)).even) ≡ b
point_says k b = elim (eqb_tells (k % 2) 0) [
  | inl same ↦ rw same.0 (point_says_odd b)
  | inr other ↦ rw other.0 (point_says_even b)
]

pub header_at : (m : Mode) (n : ℕ) (payload : List Symbol) (k : ℕ) → IsMode m → k < 90 → symbol_at (take 90 (frame_symbols m n payload)) k ≡ header_symbol m k
header_at m n payload k is lt =
    let none = symbol (pos 0) (pos 0) in
    let inside : k < symbols_in m = omega (arith, (frame_sizes m is).symbols) in
    let here : 0 + k ≡ k = omega arith in
    get_or-take 90 (frame_symbols m n payload) k none lt
    ∙ (get_or-map-range_with_len (frame_symbol m n payload) 0 (symbols_in m) k k none inside here ∙ rw (lt-ltb k 90 lt) refl)

pub clean_passes : (m : Mode) (n : ℕ) (payload : List Symbol) → IsMode m → found m (map decision (take 90 (frame_symbols m n payload))) ≡ founds.Coded
clean_passes m n payload is =
    let symbols = take 90 (frame_symbols m n payload) in
    let window = map decision symbols in
    let whole : length (frame_symbols m n payload) ≡ symbols_in m = length-map-range_with_len (frame_symbol m n payload) 0 (symbols_in m) in
    let some : 90 ≤ symbols_in m = omega (arith, (frame_sizes m is).symbols) in
    let long : length window ≡ 90 = length-map symbols decision ∙ simp length-take (omega arith) in
    let full : 90 ≤ length window = omega arith in
    let none : mismatches (header_bit m) window 90 ≡ 0 = no_mismatch (header_bit m) window 90
    (λ k lt. sym (decided_symbols symbols k) ∙ ((λ t. if k % 2 == 0 then (decision (header_at m n payload k is lt t)).odd else (decision (header_at m n payload k is lt t)).even) ∙ point_says k (header_bit m k))) in
    rw (le-ltb (length window) 90 full) (λ t. if nat_le (none t) 12 then founds.Coded else (if matches_dummy window then founds.Dummy else founds.Nothing))

-- ---- two headers

xor_triangle : (w a b : Bool) → number (xor a b) ≤ number (xor w a) + number (xor w b)
xor_triangle true true true = omega arith
xor_triangle true true false = omega arith
xor_triangle true false true = omega arith
xor_triangle true false false = omega arith
xor_triangle false true true = omega arith
xor_triangle false true false = omega arith
xor_triangle false false true = omega arith
xor_triangle false false false = omega arith

pub triangle : (a b : ℕ → Bool) (window : List Decision) (n : ℕ) → differences a b n ≤ mismatches a window n + mismatches b window n
unfolding differences mismatches
triangle a b window zero = omega arith
triangle a b window (suc n) =
    let before = triangle a b window n in
    let here = xor_triangle (decided window n) (a n) (b n) in
    omega arith

far : Bool → Bool → Mode → Bool
far short pilots m = nat_le 32 (differences (header_bit m) (header_bit (dummy_mode short pilots)) 90)

all_far : (short pilots : Bool) (m : Mode) → IsMode m → far short pilots m ≡ true
unfolding far differences sum_of_rows
all_far false false m is = at_each (far false false) m refl is
all_far false true m is = at_each (far false true) m refl is
all_far true false m is = at_each (far true false) m refl is
all_far true true m is = at_each (far true true) m refl is

pub dummies_apart_is : (m : Mode) (short pilots : Bool) → IsMode m → 32 ≤ differences (header_bit m) (header_bit (dummy_mode short pilots)) 90
unfolding far
dummies_apart_is m short pilots is = leb-true 32 (differences (header_bit m) (header_bit (dummy_mode short pilots)) 90) (all_far short pilots m is)

one_fails : (short pilots : Bool) (m : Mode) (window : List Decision) → IsMode m → matches_header (header_bit m) window ≡ true → matches_header (header_bit (dummy_mode short pilots)) window ≡ false
one_fails short pilots m window is passed =
    let least : 32 ≤ differences (header_bit m) (header_bit (dummy_mode short pilots)) 90 = dummies_apart_is m short pilots is in
    let most : mismatches (header_bit m) window 90 ≤ 12 = leb-true (mismatches (header_bit m) window 90) 12 passed in
    let both = triangle (header_bit m) (header_bit (dummy_mode short pilots)) window 90 in
    let over : 12 < mismatches (header_bit (dummy_mode short pilots)) window 90 = omega arith in
    lt-leb (mismatches (header_bit (dummy_mode short pilots)) window 90) 12 over

pub apart_is : (m : Mode) (window : List Decision) → IsMode m → matches_header (header_bit m) window ≡ true → matches_dummy window ≡ false
apart_is m window is passed =
    λ t. one_fails false false m window is passed t || (one_fails false true m window is passed t || (one_fails true false m window is passed t || one_fails true true m window is passed t))

-- ---- right behind a frame

-- as many may differ from one of two headers as from the one from which fewer differ
le_min : (a b n : ℕ) → (nat_le a n || nat_le b n) ≡ nat_le (min a b) n
le_min a b n = elim (leb_tells a n) [
  | inl first ↦ let low : a ≤ n = first.1 in let least : min a b ≤ n = omega arith in rw first.0 (sym (le-leb (min a b) n least))
  | inr first ↦ let high : n < a = first.1 in rw first.0 (elim (leb_tells b n) [
    | inl second ↦ let low : b ≤ n = second.1 in let least : min a b ≤ n = omega arith in second.0 ∙ sym (le-leb (min a b) n least)
    | inr second ↦ let over : n < b = second.1 in let least : n < min a b = omega arith in second.0 ∙ sym (lt-leb (min a b) n least)
  ])
]

or_together : (a b c d : Bool) → (a || (b || (c || d))) ≡ ((a || b) || (c || d))
or_together true b c d = refl
or_together false b c d = refl

dummy_passes : (window : List Decision) → matches_dummy window ≡ nat_le (wrong_bits_dummy window) 12
dummy_passes window =
    let a = wrong_bits (header_bit (dummy_mode false false)) window in
    let b = wrong_bits (header_bit (dummy_mode false true)) window in
    let c = wrong_bits (header_bit (dummy_mode true false)) window in
    let d = wrong_bits (header_bit (dummy_mode true true)) window in
    or_together (nat_le a 12) (nat_le b 12) (nat_le c 12) (nat_le d 12) ∙ ((λ t. le_min a b 12 t || le_min c d 12 t) ∙ le_min (min a b) (min c d) 12)

far_from : (m : Mode) (short pilots : Bool) (window : List Decision) → IsMode m → 32 ≤ wrong_bits (header_bit m) window + wrong_bits (header_bit (dummy_mode short pilots)) window
far_from m short pilots window is =
    let least : 32 ≤ differences (header_bit m) (header_bit (dummy_mode short pilots)) 90 = dummies_apart_is m short pilots is in
    let both = triangle (header_bit m) (header_bit (dummy_mode short pilots)) window 90 in
    omega arith

-- a window differs in so many bits from a mode's header and from one of dummy frames
both_far : (m : Mode) (window : List Decision) → IsMode m → 32 ≤ wrong_bits (header_bit m) window + wrong_bits_dummy window
both_far m window is =
    let a = far_from m false false window is in
    let b = far_from m false true window is in
    let c = far_from m true false window is in
    let d = far_from m true true window is in
    omega arith

-- the test elsewhere by how many bits differ
found_by_wrong : (m : Mode) (window : List Decision) → length window ≡ 90 → found m window ≡ found_of (wrong_bits (header_bit m) window) (wrong_bits_dummy window)
found_by_wrong m window long =
    let full : 90 ≤ length window = omega arith in
    rw (le-ltb (length window) 90 full) (λ t. if matches_header (header_bit m) window then founds.Coded else (if dummy_passes window t then founds.Dummy else founds.Nothing))

coded_near : (c d lock : ℕ) → 12 ≤ lock → 32 ≤ c + d → c ≤ 12 → nearest_of c d lock ≡ founds.Coded
coded_near c d lock least apart near =
    let first : c ≤ d = omega arith in
    let allowed : c ≤ lock = omega arith in
    rw (le-leb c d first, le-leb c lock allowed) refl

dummy_near : (c d lock : ℕ) → 12 ≤ lock → 12 < c → d ≤ 12 → nearest_of c d lock ≡ founds.Dummy
dummy_near c d lock least apart near =
    let first : d < c = omega arith in
    let allowed : d ≤ lock = omega arith in
    rw (lt-leb c d first, le-leb d lock allowed) refl

none_near : (c d : ℕ) → 12 < c → 12 < d → nearest_of c d 12 ≡ founds.Nothing
none_near c d coded dummy = elim (leb_tells c d) [
  | inl first ↦ rw (first.0, lt-leb c 12 coded) refl
  | inr second ↦ rw (second.0, lt-leb d 12 dummy) refl
]

found_coded : (c d : ℕ) → nat_le c 12 ≡ true → found_of c d ≡ founds.Coded
found_coded c d near = rw near refl

found_dummy : (c d : ℕ) → nat_le c 12 ≡ false → nat_le d 12 ≡ true → found_of c d ≡ founds.Dummy
found_dummy c d many near = rw (many, near) refl

found_none : (c d : ℕ) → nat_le c 12 ≡ false → nat_le d 12 ≡ false → found_of c d ≡ founds.Nothing
found_none c d many more = rw (many, more) refl

same_test : (c d : ℕ) → 32 ≤ c + d → nearest_of c d 12 ≡ found_of c d
same_test c d apart = elim (leb_tells c 12) [
  | inl near ↦ let few : c ≤ 12 = near.1 in coded_near c d 12 (omega arith) apart few ∙ sym (found_coded c d near.0)
  | inr many ↦ let coded : 12 < c = many.1 in elim (leb_tells d 12) [
    | inl near ↦ let few : d ≤ 12 = near.1 in dummy_near c d 12 (omega arith) coded few ∙ sym (found_dummy c d many.0 near.0)
    | inr more ↦ let dummy : 12 < d = more.1 in none_near c d coded dummy ∙ sym (found_none c d many.0 more.0)
  ]
]

still : (c d lock : ℕ) → 12 ≤ lock → 32 ≤ c + d
    → (found_of c d ≡ founds.Coded → nearest_of c d lock ≡ founds.Coded) × (found_of c d ≡ founds.Dummy → nearest_of c d lock ≡ founds.Dummy)
still c d lock least apart = elim (leb_tells c 12) [
  | inl near ↦ let few : c ≤ 12 = near.1 in
      rw near.0 ((λ _. coded_near c d lock least apart few), (λ e. absurd (cc)))
  | inr many ↦ let coded : 12 < c = many.1 in rw many.0 (elim (leb_tells d 12) [
    | inl near ↦ let few : d ≤ 12 = near.1 in rw near.0 ((λ e. absurd (cc)), (λ _. dummy_near c d lock least coded few))
    | inr more ↦ rw more.0 ((λ e. absurd (cc)), (λ e. absurd (cc)))
  ])
]

pub behind_the_same : (m : Mode) (window : List Decision) → IsMode m → length window ≡ 90 → found_behind m 12 window ≡ found m window
behind_the_same m window is long =
    same_test (wrong_bits (header_bit m) window) (wrong_bits_dummy window) (both_far m window is) ∙ sym (found_by_wrong m window long)

pub found_still : (m : Mode) (lock : ℕ) (window : List Decision) → IsMode m → 12 ≤ lock → length window ≡ 90
    → (found m window ≡ founds.Coded → found_behind m lock window ≡ founds.Coded) × (found m window ≡ founds.Dummy → found_behind m lock window ≡ founds.Dummy)
found_still m lock window is least long =
    let by = found_by_wrong m window long in
    let all = still (wrong_bits (header_bit m) window) (wrong_bits_dummy window) lock least (both_far m window is) in
    ((λ e. all.0 (sym by ∙ e)), (λ e. all.1 (sym by ∙ e)))

-- ---- one symbol more

recent_more : (ys : List Sides) (d : Sides) → recent (recent ys ++ d ∷ []) ≡ recent (ys ++ d ∷ [])
recent_more ys d =
    let n = length ys - 90 in
    let few : n ≤ length ys = omega arith in
    let joined : recent ys ++ d ∷ [] ≡ drop n (ys ++ d ∷ []) = sym (drop-append-le n ys (d ∷ []) few) in
    let long : length (ys ++ d ∷ []) ≡ length ys + 1 = length-append ys (d ∷ []) ∙ omega arith in
    let rest : length (drop n (ys ++ d ∷ [])) ≡ length ys + 1 - n = length-drop n (ys ++ d ∷ []) ∙ ap (λ k. k - n) long in
    let place : n + (length (drop n (ys ++ d ∷ [])) - 90) ≡ length (ys ++ d ∷ []) - 90 = omega arith in
    ap recent joined ∙ (drop-drop (length (drop n (ys ++ d ∷ [])) - 90) n (ys ++ d ∷ []) ∙ ap (λ k. drop k (ys ++ d ∷ [])) place)

pub seen_more : (turns : Bool) (symbols : List Symbol) (next : Symbol) → recent (seen_of turns symbols ++ sides turns next ∷ []) ≡ seen_of turns (symbols ++ next ∷ [])
seen_more turns symbols next = recent_more (map (sides turns) symbols) (sides turns next) ∙ ap recent (sym (map-append (sides turns) symbols (next ∷ [])))

pub seen_last : (turns : Bool) (symbols : List Symbol) → seen_of turns symbols ≡ map (sides turns) (drop (length symbols - 90) symbols)
seen_last turns symbols = ap (λ n. drop (n - 90) (map (sides turns) symbols)) (length-map symbols (sides turns)) ∙ drop-map (sides turns) (length symbols - 90) symbols
  where
    drop-map : (f : Symbol → Sides) (n : ℕ) (xs : List Symbol) → drop n (map f xs) ≡ map f (drop n xs)
    drop-map f zero xs = refl
    drop-map f (suc n) [] = refl
    drop-map f (suc n) (x ∷ xs) = drop-map f n xs

-- ---- dummy headers

pub header_no_mismatch : (m : Mode) → mismatches (header_bit m) (map decision (header_of m)) 90 ≡ 0
header_no_mismatch m =
    let symbols = header_of m in
    no_mismatch (header_bit m) (map decision symbols) 90
    (λ k lt. let here : 0 + k ≡ k = omega arith in
    let at : symbol_at symbols k ≡ header_symbol m k = get_or-map-range_with_len (header_symbol m) 0 90 k k (symbol (pos 0) (pos 0)) lt here in
    sym (decided_symbols symbols k) ∙ ((λ t. if k % 2 == 0 then (decision (at t)).odd else (decision (at t)).even) ∙ point_says k (header_bit m k)))

header_passes : (m : Mode) → matches_header (header_bit m) (map decision (header_of m)) ≡ true
header_passes m = ap (λ n. nat_le n 12) (header_no_mismatch m)

first_passes : (a b c d : Bool) → a ≡ true → (a || (b || (c || d))) ≡ true
first_passes a b c d e = rw e

second_passes : (a b c d : Bool) → b ≡ true → (a || (b || (c || d))) ≡ true
second_passes true b c d e = refl
second_passes false b c d e = rw e

third_passes : (a b c d : Bool) → c ≡ true → (a || (b || (c || d))) ≡ true
third_passes true b c d e = refl
third_passes false true c d e = refl
third_passes false false c d e = rw e

last_passes : (a b c d : Bool) → d ≡ true → (a || (b || (c || d))) ≡ true
last_passes true b c d e = refl
last_passes false true c d e = refl
last_passes false false true d e = refl
last_passes false false false d e = e

-- a header of dummy frames is one of the four
known : (short pilots : Bool) (window : List Decision) → matches_header (header_bit (dummy_mode short pilots)) window ≡ true → matches_dummy window ≡ true
known false false window e = first_passes _ (matches_header (header_bit (dummy_mode false true)) window) (matches_header (header_bit (dummy_mode true false)) window) (matches_header (header_bit (dummy_mode true true)) window) e
known false true window e = second_passes (matches_header (header_bit (dummy_mode false false)) window) _ (matches_header (header_bit (dummy_mode true false)) window) (matches_header (header_bit (dummy_mode true true)) window) e
known true false window e = third_passes (matches_header (header_bit (dummy_mode false false)) window) (matches_header (header_bit (dummy_mode false true)) window) _ (matches_header (header_bit (dummy_mode true true)) window) e
known true true window e = last_passes (matches_header (header_bit (dummy_mode false false)) window) (matches_header (header_bit (dummy_mode false true)) window) (matches_header (header_bit (dummy_mode true false)) window) _ e

not_both : (a d : Bool) → (a ≡ true → d ≡ false) → d ≡ true → a ≡ false
not_both true d h e = absurd (false≢true (sym (h refl) ∙ e))
not_both false d h e = refl

pub dummy_found : (m : Mode) (short pilots : Bool) → IsMode m → found m (map decision (header_of (dummy_mode short pilots))) ≡ founds.Dummy
dummy_found m short pilots is =
    let symbols = header_of (dummy_mode short pilots) in
    let window = map decision symbols in
    let long : length window ≡ 90 = length-map symbols decision ∙ length-map-range_with_len (header_symbol (dummy_mode short pilots)) 0 90 in
    let full : 90 ≤ length window = omega arith in
    let dummy : matches_dummy window ≡ true = known short pilots window (header_passes (dummy_mode short pilots)) in
    let coded : matches_header (header_bit m) window ≡ false = not_both (matches_header (header_bit m) window) (matches_dummy window) (apart_is m window is) dummy in
    rw (le-ltb (length window) 90 full) (λ t. if coded t then founds.Coded else (if dummy t then founds.Dummy else founds.Nothing))

-- ---- a frame, taken apart

pub taken_out_is : (m : Mode) (n : ℕ) (payload : List Symbol) → IsMode m → length payload ≡ 90 * slots_of m → AllRotateBack payload → HoldsFrame m n payload (frame_symbols m n payload)
taken_out_is m n payload is long can =
    let whole : length (frame_symbols m n payload) ≡ symbols_in m = length-map-range_with_len (frame_symbol m n payload) 0 (symbols_in m) in
    let some : 90 ≤ symbols_in m = omega (arith, (frame_sizes m is).symbols) in
    let sized : length (take 90 (frame_symbols m n payload)) ≡ 90 = simp length-take (omega arith) in
    record {
      header = fill_by_all (header_symbol m) (take 90 (frame_symbols m n payload)) 90 (symbol (pos 0) (pos 0)) sized (λ k lt. header_at m n payload k is lt);
      payload_again = payload_again m n payload is long can;
    }
