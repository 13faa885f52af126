-- Of a frame that arrives without noise, the equalizer gives back what was sent.
use Rattle.std.proofs.Common.{◌≡◌, ℕ, zero, suc, ◌+◌, ◌-◌, ◌*◌, ◌/◌, ◌%◌, ◌^◌, ◌≤◌, ◌<◌, min, Bool, true, false, cond, List, [], ◌∷◌, length, map, ℤ, pos, negsuc, ◌+ℤ◌, ◌*ℤ◌, neg_ℤ, unsigned_abs, refl, ap, ap₂, ◌∙◌, sym, subst, arith}
use Rattle.std.specs.Prelude.{nat_lt}
use Rattle.std.proofs.lemmas.Int.{ints, clamps, unsigned_abs-mul}
use Rattle.std.proofs.lemmas.List.FromFn.{fill_by_all, length-map-range_with_len}
use Rattle.std.proofs.lemmas.List.{length-map}
use lib.IntN.{pos-*ℤ-pos, pos-*ℤ-negsuc}
use Rattle.s2_mode.specs.declared.symbols.Symbol.{Symbol}
use Rattle.s2_mode.specs.Symbols.{symbol, symbol_at}
use Rattle.s2_mode.specs.Mode.{Mode, IsMode, pilot_blocks_of, symbols_in}
use Rattle.s2_scramble.specs.Gold.{quarter_turns}
use Rattle.s2_scramble.specs.Rotations.{negative, rotated}
use Rattle.s2_plframe.specs.Frame.{frame_symbol, frame_symbols, pilot, slot_symbol, spaced_symbol}
use Rattle.s2_plframe.specs.Header.{header_bit, header_symbol}
use Rattle.s2_equalize.specs.declared.complex.Complex.{Complex}
use Rattle.s2_equalize.specs.Complex.{complex, complex_at, nearest, number_of, over, plus, scaled, times}
use Rattle.s2_equalize.specs.Equalizer.{digits, equalized, equalized_symbol, factor_at, factors_of, fineness, frame_gains, limited, multiplied, reciprocal, removed, stretch}
use Rattle.s2_equalize.specs.Gains.{gains_of, known_frame, no_turn, smoothed, turn}
use Rattle.s2_equalize.specs.Laws.{ExactLaw, IsModerate, arrived}
use Rattle.s2_equalize.proofs.Axes.{arrived_number, axis, axis_back, factor_back, signed}
use Rattle.s2_equalize.proofs.Arriving.{arrived_at, gain_is, gains_long, sent_at, signed_size, smoothed_is, smoothed_long, turn_is}
use Rattle.s2_equalize.proofs.Corners.{IsCorner, header_corner, pilot_corner}
use Rattle.s2_equalize.proofs.Exact.{component_back, nearest_whole}
use Rattle.s2_equalize.proofs.Inverse.{Inverts, axis_digits, near_itself, reciprocal_axis}
use Rattle.s2_equalize.proofs.Sizes.{product_within}

-- ---- the symbols of a frame are moderate

corner_moderate : (gain : ℕ) (s : Symbol) → gain ≤ 46 → IsCorner s → IsModerate gain s
corner_moderate gain s few is =
    subst (IsModerate gain) (sym is.is)
    (record {
      i = omega (arith, signed_size is.i 700);
      q = omega (arith, signed_size is.q 700);
      i_fits = omega (arith, ap (λ (n : ℕ). gain * n) (signed_size is.i 700), few);
      q_fits = omega (arith, ap (λ (n : ℕ). gain * n) (signed_size is.q 700), few);
    })

negative_size : (z : ℤ) → unsigned_abs z ≤ 4095 → unsigned_abs (negative z) ≡ unsigned_abs z
negative_size z small = omega (arith, ints, clamps, small)

negative_fits : (gain : ℕ) (z : ℤ) → unsigned_abs z ≤ 4095 → gain * unsigned_abs z ≤ 32767 → gain * unsigned_abs (negative z) ≤ 32767
negative_fits gain z small fits = omega (arith, ap (λ (n : ℕ). gain * n) (negative_size z small), fits)

negative_small : (z : ℤ) → unsigned_abs z ≤ 4095 → unsigned_abs (negative z) ≤ 4095
negative_small z small = omega (arith, negative_size z small, small)

rotated_moderate : (gain quarters : ℕ) (s : Symbol) → IsModerate gain s → IsModerate gain (rotated quarters s)
rotated_moderate gain zero s h = h
rotated_moderate gain (suc zero) s h = record { i = negative_small s.q h.q; q = h.i; i_fits = negative_fits gain s.q h.q h.q_fits; q_fits = h.i_fits }
rotated_moderate gain (suc (suc zero)) s h =
    record { i = negative_small s.i h.i; q = negative_small s.q h.q; i_fits = negative_fits gain s.i h.i h.i_fits; q_fits = negative_fits gain s.q h.q h.q_fits }
rotated_moderate gain (suc (suc (suc n))) s h = record { i = h.q; q = negative_small s.i h.i; i_fits = h.q_fits; q_fits = negative_fits gain s.i h.i h.i_fits }

one_of : (gain : ℕ) (b : Bool) (s t : Symbol) → IsModerate gain s → IsModerate gain t → IsModerate gain (cond b s t)
one_of gain true s t p q = p
one_of gain false s t p q = q

frame_moderate : (m : Mode) (number gain : ℕ) (payload : List Symbol) → gain ≤ 46 → ((k : ℕ) → IsModerate gain (symbol_at payload k)) → (i : ℕ) → IsModerate gain (frame_symbol m number payload i)
frame_moderate m number gain payload few each i =
    let u = i - 90 in
    let slot = one_of gain m.pilots (spaced_symbol payload u) (symbol_at payload u)
    (one_of gain (nat_lt (u % 1476) 1440) (symbol_at payload (1440 * (u / 1476) + u % 1476)) pilot (each (1440 * (u / 1476) + u % 1476)) (corner_moderate gain pilot few (pilot_corner 0))) (each u) in
    one_of gain (nat_lt i 90) (header_symbol m i) (rotated (quarter_turns number u) (slot_symbol m payload u))
    (corner_moderate gain (header_symbol m i) few (header_corner i (header_bit m i))) (rotated_moderate gain (quarter_turns number u) (slot_symbol m payload u) slot)

-- ---- one factor everywhere

at_map : (f : Complex → Complex) (xs : List Complex) (k : ℕ) → k < length xs → complex_at (map f xs) k ≡ f (complex_at xs k)
at_map f [] k lt = absurd (omega (arith, lt))
at_map f (x ∷ xs) zero lt = refl
at_map f (x ∷ xs) (suc k) lt = at_map f xs k (omega (arith, lt))

both : (i j : ℕ) (z : ℤ) → pos i *ℤ z +ℤ pos j *ℤ z ≡ pos (i + j) *ℤ z
both i j (pos k) =
    let sum : i * k + j * k ≡ (i + j) * k = omega arith in
    ap₂ ◌+ℤ◌ (pos-*ℤ-pos i k) (pos-*ℤ-pos j k) ∙ (ap pos sum ∙ sym (pos-*ℤ-pos (i + j) k))
both i j (negsuc k) =
    let sum : i * suc k + j * suc k ≡ (i + j) * suc k = omega arith in
    omega (arith, ints, pos-*ℤ-negsuc i k, pos-*ℤ-negsuc j k, pos-*ℤ-negsuc (i + j) k, sum)

straight : (i j : ℕ) (w : Complex) → i + j ≡ 41 → over 41 (plus (scaled i w) (scaled j w)) ≡ w
straight i j w sum = ap₂ complex (part w.re) (part w.im)
  where
    part : (z : ℤ) → nearest (pos i *ℤ z +ℤ pos j *ℤ z) 41 ≡ z
    part z = ap (λ x. nearest x 41) (both i j z ∙ ap (λ (n : ℕ). pos n *ℤ z) sum) ∙ nearest_whole z 41 (omega arith)

factor_is : (xs : List Complex) (w : Complex) (t : ℕ) → 2 ≤ length xs → ((k : ℕ) → k < length xs → complex_at xs k ≡ w) → factor_at xs t ≡ w
unfolding factor_at
factor_is xs w t some each =
    let k = min ((t + 1) / 41) (length xs - 2) in
    let j = (t + 1) % 41 in
    let here : complex_at xs k ≡ w = each k (omega (arith, some)) in
    let next : complex_at xs (k + 1) ≡ w = each (k + 1) (omega (arith, some)) in
    let sum : 41 - j + j ≡ 41 = omega arith in
    ap₂ (λ (a : Complex) (b : Complex). over 41 (plus (scaled (41 - j) a) (scaled j b))) here next ∙ straight (41 - j) j w sum

-- ---- one symbol

fits_of : (gain : ℕ) (z : ℤ) → gain * unsigned_abs z ≤ 32767 → unsigned_abs (pos gain *ℤ z) ≤ 32767
fits_of gain z fits =
    let size : unsigned_abs (pos gain) ≡ gain = omega (arith, ints) in
    omega (arith, unsigned_abs-mul (pos gain) z, ap (λ (n : ℕ). n * unsigned_abs z) size, fits)

limited_is : (z : ℤ) → unsigned_abs z ≤ 4095 → limited z ≡ z
limited_is z small = omega (arith, ints, clamps, small)

back : (gain q b w : ℕ) (s : Symbol) → 1 ≤ gain → 1024 * gain < 2 ^ b → Inverts gain (2 ^ (b + 2)) w → IsModerate gain s → multiplied b (axis_back q w) (arrived gain q s) ≡ s
unfolding multiplied
back gain q b w s some above inv h =
    let n = 2 ^ (b + 2) in
    let number = arrived_number gain q s (fits_of gain s.i h.i_fits) (fits_of gain s.q h.q_fits) in
    let product = ap (λ (a : Complex). times a (axis_back q w)) number ∙ factor_back q w (pos gain *ℤ s.i) (pos gain *ℤ s.q) in
    let i = component_back gain w n s.i (near_itself gain b w (unsigned_abs s.i) some above inv h.i) in
    let k = component_back gain w n s.q (near_itself gain b w (unsigned_abs s.q) some above inv h.q) in
    ap (λ (a : Complex). symbol (limited (nearest a.re n)) (limited (nearest a.im n))) product
    ∙ ap₂ symbol (ap limited i ∙ limited_is s.i h.i) (ap limited k ∙ limited_is s.q h.q)

-- ---- a whole frame

module _ (m : Mode) (number gain q : ℕ) (payload : List Symbol) (is : IsMode m) (some : 1 ≤ gain) (few : gain ≤ 46) (each : (k : ℕ) → IsModerate gain (symbol_at payload k)) where
  abbrev sent : List Symbol
  sent = frame_symbols m number payload

  abbrev came : List Symbol
  came = map (arrived gain q) sent

  abbrev g : ℕ
  g = 1024 * gain

  abbrev gains : List Complex
  gains = frame_gains m number came

  gains_are : (k : ℕ) → k < length gains → complex_at gains k ≡ axis q g
  gains_are k lt =
      let xs = gains_of came (known_frame m number) (pilot_blocks_of m) in
      let long = gains_long m number gain q payload is some few in
      let longer = smoothed_long q g xs (omega (arith, long)) (λ j less. gain_is m number gain q payload is some few j (omega (arith, less, long))) (8192 * (gain * gain), omega arith) in
      smoothed_is q g xs (omega (arith, long)) (λ j less. gain_is m number gain q payload is some few j (omega (arith, less, long))) (8192 * (gain * gain), omega arith) k (omega (arith, lt, longer))

  long_is : length gains ≡ pilot_blocks_of m + 2
  long_is =
      let xs = gains_of came (known_frame m number) (pilot_blocks_of m) in
      let long = gains_long m number gain q payload is some few in
      let longer = smoothed_long q g xs (omega (arith, long)) (λ j less. gain_is m number gain q payload is some few j (omega (arith, less, long))) (8192 * (gain * gain), omega arith) in
      omega (arith, long, longer)

  abbrev b : ℕ
  b = digits (axis q g)

  fine : fineness gains ≡ b
  fine = ap digits (gains_are 0 (omega (arith, long_is)))

  symbol_back : (i : ℕ) → i < symbols_in m → equalized_symbol gains came i ≡ symbol_at sent i
  unfolding factors_of
  symbol_back i lt =
      let held = axis_digits q g (omega (arith, few)) in
      let w = reciprocal_axis q gain b some held.below in
      let factors = factors_of gains in
      let same : length factors ≡ length gains = length-map gains (reciprocal (fineness gains)) in
      let factor = factor_is factors (axis_back q w.0) (stretch i) (omega (arith, same, long_is))
      (λ k less. at_map (reciprocal (fineness gains)) gains k (omega (arith, less, same)) ∙ (ap₂ reciprocal fine (gains_are k (omega (arith, less, same))) ∙ w.1)) in
      let symbol_is = arrived_at gain q sent i ∙ ap (arrived gain q) (sent_at m number payload i lt) in
      (λ t. multiplied (fine t) (factor t) (symbol_is t))
      ∙ (back gain q b w.0 (frame_symbol m number payload i) some held.above w.2 (frame_moderate m number gain payload few each i) ∙ sym (sent_at m number payload i lt))

  pub frame_back : equalized m number came ≡ sent
  unfolding equalized
  frame_back =
      let long : length sent ≡ symbols_in m = length-map-range_with_len (frame_symbol m number payload) 0 (symbols_in m) in
      sym (fill_by_all (equalized_symbol gains came) sent (symbols_in m) (symbol (pos 0) (pos 0)) long (λ i lt. sym (symbol_back i lt)))

  -- nothing is taken out but the gain
  pub frame_removed : removed m number came ≡ record { gain = axis q g; rotation = no_turn }
  unfolding removed
  frame_removed =
      let xs = gains_of came (known_frame m number) (pilot_blocks_of m) in
      let long = gains_long m number gain q payload is some few in
      let rotation : turn xs ≡ no_turn = turn_is q g xs (omega (arith, long)) (λ j less. gain_is m number gain q payload is some few j (omega (arith, less, long))) (8192 * (gain * gain), omega arith) in
      let first : complex_at gains 0 ≡ axis q g = gains_are 0 (omega (arith, long_is)) in
      λ t. record { gain = first t; rotation = rotation t }

pub exact : ExactLaw
exact m number gain quarters payload is some few each = frame_back m number gain quarters payload is some few each

-- as it was sent
one_arrives : (s : Symbol) → arrived 1 0 s ≡ s
one_arrives s = ap₂ symbol (omega (arith, ints)) (omega (arith, ints))

map_same : (f : Symbol → Symbol) (xs : List Symbol) → ((s : Symbol) → f s ≡ s) → map f xs ≡ xs
map_same f [] same = refl
map_same f (x ∷ xs) same = ap₂ ◌∷◌ (same x) (map_same f xs same)

pub sent_back : (m : Mode) (number : ℕ) (payload : List Symbol) → IsMode m → ((k : ℕ) → IsModerate 1 (symbol_at payload k)) → equalized m number (frame_symbols m number payload) ≡ frame_symbols m number payload
sent_back m number payload is each =
    ap (equalized m number) (sym (map_same (arrived 1 0) (frame_symbols m number payload) one_arrives)) ∙ exact m number 1 0 payload is (omega arith) (omega arith) each

-- of a frame as it was sent a gain of 1 is taken out, and no rotation
pub sent_removed : (m : Mode) (number : ℕ) (payload : List Symbol) → IsMode m → ((k : ℕ) → IsModerate 1 (symbol_at payload k)) → removed m number (frame_symbols m number payload) ≡ record { gain = complex (pos 1024) (pos 0); rotation = no_turn }
sent_removed m number payload is each =
    ap (removed m number) (sym (map_same (arrived 1 0) (frame_symbols m number payload) one_arrives)) ∙ frame_removed m number 1 0 payload is (omega arith) (omega arith) each
