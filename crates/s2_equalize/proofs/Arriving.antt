-- The gains of a frame that arrives without noise are all the same.
use Rattle.std.proofs.Common.{◌≡◌, ◌≢◌, ℕ, zero, suc, ◌+◌, ◌-◌, ◌*◌, ◌/◌, ◌≤◌, ◌<◌, min, Bool, true, false, cond, eqb, inl, inr, List, [], length, map, get_or, ℤ, pos, ◌*ℤ◌, neg_ℤ, unsigned_abs, refl, ap, ap₂, ◌∙◌, sym, subst, arith}
use Rattle.std.specs.Prelude.{nat_le}
use Rattle.std.specs.List.{range_with_len}
use Rattle.std.proofs.Math.ListN.{get_or-map}
use Rattle.std.proofs.lemmas.Bool.{cases_lt, eq-eqb, ne_eqb}
use Rattle.std.proofs.lemmas.Int.{ints}
use Rattle.std.proofs.lemmas.List.FromFn.{get_or-map-range_with_len, length-map-range_with_len}
use lib.IntN.{*ℤ-zero, pos-*ℤ-pos}
use Rattle.s2_mode.specs.declared.symbols.Symbol.{Symbol}
use Rattle.s2_mode.specs.Symbols.{symbol, symbol_at}
use Rattle.s2_mode.specs.Mode.{Mode, IsMode, pilot_blocks_of, symbols_in}
use Rattle.s2_scramble.specs.Rotations.{rotated}
use Rattle.s2_plframe.specs.Frame.{frame_symbol, frame_symbols}
use Rattle.s2_equalize.specs.declared.complex.Complex.{Complex}
use Rattle.s2_equalize.specs.Complex.{complex, complex_at, energy, number_of, over, root, scaled, sum_from, times, times_conjugate}
use Rattle.s2_equalize.specs.Gains.{block_gain, block_length, block_start, correlation_at, count_near, first_near, gain_of, gains_of, known_frame, mean_gain, no_turn, smoothed, smoothed_gain, turn, turn_at, turn_of, turn_sum, turned, turns, weight, weights}
use Rattle.s2_equalize.specs.Laws.{arrived}
use Rattle.s2_equalize.proofs.Axes.{arrived_number, axis, corner, negative_multiple, over_axis, quarter, same_axis, scaled_axis, signed, sum_axis, turn_none, turn_none_back}
use Rattle.s2_equalize.proofs.Corners.{IsCorner, IsKnownPlace, in_block}
use Rattle.s2_equalize.proofs.Quotients.{one_root, root_is}
use Rattle.s2_equalize.proofs.Weights.{behind_is, inside_is}

-- ---- the correlation of a known symbol

signed_gain : (gain : ℕ) (b : Bool) → pos gain *ℤ signed b 700 ≡ signed b (gain * 700)
signed_gain gain false = pos-*ℤ-pos gain 700
signed_gain gain true = negative_multiple gain 700

pub signed_size : (b : Bool) (n : ℕ) → unsigned_abs (signed b n) ≡ n
signed_size false n = omega (arith, ints)
signed_size true n = omega (arith, ints)

pub corner_arrives : (gain q : ℕ) (s : Symbol) → gain ≤ 46 → IsCorner s → times_conjugate (number_of (arrived gain q s)) (number_of s) ≡ axis q (980000 * gain)
corner_arrives gain q s few is =
    let b = is.i in
    let c = is.q in
    let t = symbol (signed b 700) (signed c 700) in
    let i = signed_gain gain b in
    let k = signed_gain gain c in
    let i_fits : unsigned_abs (pos gain *ℤ t.i) ≤ 32767 = omega (arith, ap unsigned_abs i, signed_size b (gain * 700), few) in
    let q_fits : unsigned_abs (pos gain *ℤ t.q) ≤ 32767 = omega (arith, ap unsigned_abs k, signed_size c (gain * 700), few) in
    let size : 1400 * (gain * 700) ≡ 980000 * gain = omega arith in
    ap (λ (u : Symbol). times_conjugate (number_of (arrived gain q u)) (number_of u)) is.is
    ∙ (ap (λ (z : Complex). times_conjugate z (number_of t)) (arrived_number gain q t i_fits q_fits ∙ ap₂ (quarter q) i k)
    ∙ (corner q (gain * 700) b c ∙ ap (axis q) size))

rotated_origin : (q : ℕ) → rotated q (symbol (pos 0) (pos 0)) ≡ symbol (pos 0) (pos 0)
rotated_origin zero = refl
rotated_origin (suc zero) = refl
rotated_origin (suc (suc zero)) = refl
rotated_origin (suc (suc (suc n))) = refl

arrived_origin : (gain q : ℕ) → symbol (pos 0) (pos 0) ≡ arrived gain q (symbol (pos 0) (pos 0))
arrived_origin gain q = sym ((λ t. rotated q (symbol (*ℤ-zero (pos gain) t) (*ℤ-zero (pos gain) t))) ∙ rotated_origin q)

-- the symbols of a frame that arrives
pub arrived_at : (gain q : ℕ) (xs : List Symbol) (i : ℕ) → symbol_at (map (arrived gain q) xs) i ≡ arrived gain q (symbol_at xs i)
arrived_at gain q xs i = ap (get_or (map (arrived gain q) xs) i) (arrived_origin gain q) ∙ get_or-map (arrived gain q) xs i (symbol (pos 0) (pos 0))

-- the symbols of a frame that was sent
pub sent_at : (m : Mode) (number : ℕ) (payload : List Symbol) (i : ℕ) → i < symbols_in m → symbol_at (frame_symbols m number payload) i ≡ frame_symbol m number payload i
sent_at m number payload i lt =
    let place : 0 + i ≡ i = omega arith in
    get_or-map-range_with_len (frame_symbol m number payload) 0 (symbols_in m) i i (symbol (pos 0) (pos 0)) lt place

-- ---- a frame that arrives

module _ (m : Mode) (number gain q : ℕ) (payload : List Symbol) (is : IsMode m) (some : 1 ≤ gain) (few : gain ≤ 46) where
  abbrev came : List Symbol
  came = map (arrived gain q) (frame_symbols m number payload)

  known_at : (i : ℕ) → i < symbols_in m → symbol_at (known_frame m number) i ≡ frame_symbol m number [] i
  unfolding known_frame
  known_at i lt = sent_at m number [] i lt

  place_arrives : (i : ℕ) → IsKnownPlace m number i → correlation_at came (known_frame m number) i ≡ axis q (980000 * gain)
  place_arrives i place =
      let received : symbol_at came i ≡ arrived gain q place.sent = arrived_at gain q (frame_symbols m number payload) i ∙ ap (arrived gain q) (sent_at m number payload i place.inside ∙ place.each payload) in
      let sent : symbol_at (known_frame m number) i ≡ place.sent = known_at i place.inside ∙ place.each [] in
      ap₂ (λ (r : Symbol) (s : Symbol). times_conjugate (number_of r) (number_of s)) received sent ∙ corner_arrives gain q place.sent few place.corner

  -- the gain of each block
  gain_arrives : (at n : ℕ) → 0 < n → ((j : ℕ) → j < n → IsKnownPlace m number (at + j)) → gain_of came (known_frame m number) at n ≡ axis q (1024 * gain)
  unfolding gain_of
  gain_arrives at n some_places places =
      let f = correlation_at came (known_frame m number) in
      let none : 0 * (980000 * gain) ≡ 0 = omega arith in
      let sum = sum_axis q f (λ _. 980000 * gain) at n (λ k. k * (980000 * gain)) none (λ k. omega arith) (λ k lt. place_arrives (at + k) (places k lt)) in
      let size : 1024 * (n * (980000 * gain)) ≡ 1024 * gain * (980000 * n) = omega arith in
      ap (over (980000 * n)) (ap (scaled 1024) sum ∙ (scaled_axis q 1024 (n * (980000 * gain)) ∙ ap (axis q) size))
      ∙ over_axis q (1024 * gain) (980000 * n) (omega (arith, some_places))

  length_some : (k : ℕ) → 0 < block_length k
  length_some zero = omega arith
  length_some (suc k) = omega arith

  abbrev g : ℕ
  g = 1024 * gain

  abbrev gains : List Complex
  gains = gains_of came (known_frame m number) (pilot_blocks_of m)

  pub gains_long : length gains ≡ pilot_blocks_of m + 1
  unfolding gains_of
  gains_long = length-map-range_with_len (block_gain came (known_frame m number)) 0 (pilot_blocks_of m + 1)

  pub gain_is : (k : ℕ) → k < pilot_blocks_of m + 1 → complex_at gains k ≡ axis q g
  unfolding gains_of
  gain_is k lt =
      let place : 0 + k ≡ k = omega arith in
      get_or-map-range_with_len (block_gain came (known_frame m number)) 0 (pilot_blocks_of m + 1) k k (complex (pos 0) (pos 0)) lt place
      ∙ gain_arrives (block_start k) (block_length k) (length_some k) (λ j few_places. in_block m number k j is (omega (arith, lt)) few_places)

-- ---- gains that are all the same

root_of_square : (x : ℕ) → root (energy (axis 0 x)) ≡ x
root_of_square x =
    let size : energy (axis 0 x) ≡ x * x = omega (arith, ints) in
    ap root size ∙ sym (one_root (x * x) x (root (x * x)) (record { below = omega arith; above = omega arith }) (root_is (x * x)))

turn_of_none : (a : Complex) → root (energy a) ≡ 0 → turn_of a ≡ no_turn
unfolding turn_of
turn_of_none a e = ap (λ b. cond b no_turn (over (root (energy a)) (scaled 32768 a))) (eq-eqb (root (energy a)) 0 e)

turn_of_some : (a : Complex) → root (energy a) ≢ 0 → turn_of a ≡ over (root (energy a)) (scaled 32768 a)
unfolding turn_of
turn_of_some a ne = ap (λ b. cond b no_turn (over (root (energy a)) (scaled 32768 a))) (ne_eqb (root (energy a)) 0 ne)

turn_of_axis : (x : ℕ) → turn_of (axis 0 x) ≡ no_turn
turn_of_axis zero = turn_of_none (axis 0 0) (root_of_square 0)
turn_of_axis (suc n) =
    let size = root_of_square (suc n) in
    let other : root (energy (axis 0 (suc n))) ≢ 0 = omega (arith, size) in
    turn_of_some (axis 0 (suc n)) other ∙ (ap₂ over size (scaled_axis 0 32768 (suc n)) ∙ over_axis 0 32768 (suc n) (omega arith))

pub turns_none : (n : ℕ) → turns no_turn n ≡ no_turn
unfolding turns
turns_none zero = refl
turns_none (suc n) = ap (λ (a : Complex). over 32768 (times a no_turn)) (turns_none n) ∙ (ap (over 32768) (turn_none 0 32768) ∙ over_axis 0 32768 32768 (omega arith))

either : (b : Bool) (x y z : Complex) → x ≡ z → y ≡ z → cond b x y ≡ z
either true x y z p r = p
either false x y z p r = r

weights_least : (at n : ℕ) → n ≤ weights at n
unfolding weights
weights_least at zero = omega arith
weights_least at (suc n) = by (weight (at + n)) (one (eqb (at + n) 0)) (weights_least at n)
  where
    one : (b : Bool) → 1 ≤ cond b 2 1
    one true = omega arith
    one false = omega arith

    by : (w : ℕ) → 1 ≤ w → n ≤ weights at n → suc n ≤ weights at n + w
    by w some before = omega (arith, some, before)

no_weights : (at : ℕ) → weights at 0 ≡ 0
unfolding weights
no_weights at = refl

next_weights : (at n : ℕ) → weights at (suc n) ≡ weights at n + weight (at + n)
unfolding weights
next_weights at n = refl

module _ (q g : ℕ) (xs : List Complex) (some : 0 < length xs) (each : (k : ℕ) → k < length xs → complex_at xs k ≡ axis q g) (even : (h : ℕ) × (g * g ≡ h * 128)) where
  pub turn_is : turn xs ≡ no_turn
  unfolding turn_sum
  turn_is =
      let n = length xs - 1 in
      let terms = λ (k : ℕ) (lt : k < n).
      let here : complex_at xs (0 + k) ≡ axis q g = each (0 + k) (omega (arith, lt)) in
      let next : complex_at xs (0 + k + 1) ≡ axis q g = each (0 + k + 1) (omega (arith, lt)) in
      ap₂ times_conjugate next here ∙ same_axis q g in
      let none : 0 * (g * g) ≡ 0 = omega arith in
      let sum = sum_axis 0 (turn_at xs) (λ _. g * g) 0 n (λ k. k * (g * g)) none (λ k. omega arith) terms in
      let size : n * (g * g) ≡ n * even.0 * 128 = ap (λ (x : ℕ). n * x) even.1 ∙ omega arith in
      ap turn_of (ap (over 128) (sum ∙ ap (axis 0) size) ∙ over_axis 0 (n * even.0) 128 (omega arith)) ∙ turn_of_axis (n * even.0)

  turned_is : (k l : ℕ) → l < length xs → turned xs no_turn k l ≡ axis q (32768 * g)
  unfolding turned
  turned_is k l lt =
      either (nat_le l k) (times (complex_at xs l) (turns no_turn (k - l))) (times_conjugate (complex_at xs l) (turns no_turn (l - k))) (axis q (32768 * g))
      (ap₂ times (each l lt) (turns_none (k - l)) ∙ turn_none q g) (ap₂ times_conjugate (each l lt) (turns_none (l - k)) ∙ turn_none_back q g)

  mean_is : (k : ℕ) → k < length xs → mean_gain xs no_turn k ≡ axis q g
  unfolding mean_gain
  mean_is k lt =
      let at = first_near k in
      let n = count_near xs k in
      let f = λ (l : ℕ). scaled (weight l) (turned xs no_turn k l) in
      let none : weights at 0 * (32768 * g) ≡ 0 = ap (λ (w : ℕ). w * (32768 * g)) (no_weights at) ∙ omega arith in
      let more = λ (j : ℕ). by_next (weights at (suc j)) (weights at j) (weight (at + j)) (next_weights at j) in
      let terms = λ (j : ℕ) (less : j < n).
      let inside : at + j < length xs = omega (arith, less) in
      ap (scaled (weight (at + j))) (turned_is k (at + j) inside) ∙ scaled_axis q (weight (at + j)) (32768 * g) in
      let sum = sum_axis q f (λ l. weight l * (32768 * g)) at n (λ j. weights at j * (32768 * g)) none more terms in
      let least = weights_least at n in
      let blocks : 1 ≤ n = omega (arith, lt) in
      let size : weights at n * (32768 * g) ≡ g * (32768 * weights at n) = omega arith in
      ap (over (32768 * weights at n)) (sum ∙ ap (axis q) size) ∙ over_axis q g (32768 * weights at n) (omega (arith, least, blocks))
    where
      by_next : (next before w : ℕ) → next ≡ before + w → next * (32768 * g) ≡ before * (32768 * g) + w * (32768 * g)
      by_next next before w e = ap (λ (x : ℕ). x * (32768 * g)) e ∙ omega arith

  behind_turned : over 32768 (times (axis q g) no_turn) ≡ axis q g
  behind_turned =
      let size : 32768 * g ≡ g * 32768 = omega arith in
      ap (over 32768) (turn_none q g ∙ ap (axis q) size) ∙ over_axis q g 32768 (omega arith)

  smoothed_gain_is : (k : ℕ) → k < length xs + 1 → smoothed_gain xs no_turn k ≡ axis q g
  smoothed_gain_is k lt =
      elim (cases_lt k (length xs)) [
        | inl less ↦ sym (inside_is xs no_turn k less) ∙ mean_is k less
        | inr more ↦
            let same : k ≡ length xs = omega (arith, lt, more) in
            ap (smoothed_gain xs no_turn) same
            ∙ (sym (behind_is xs no_turn) ∙ (ap (λ (a : Complex). over 32768 (times a no_turn)) (mean_is (length xs - 1) (omega (arith, some))) ∙ behind_turned))
      ]

  pub smoothed_is : (k : ℕ) → k < length xs + 1 → complex_at (smoothed xs) k ≡ axis q g
  unfolding smoothed
  smoothed_is k lt =
      let place : 0 + k ≡ k = omega arith in
      get_or-map-range_with_len (smoothed_gain xs (turn xs)) 0 (length xs + 1) k k (complex (pos 0) (pos 0)) lt place
      ∙ (ap (λ (c : Complex). smoothed_gain xs c k) turn_is ∙ smoothed_gain_is k lt)

  pub smoothed_long : length (smoothed xs) ≡ length xs + 1
  unfolding smoothed
  smoothed_long = length-map-range_with_len (smoothed_gain xs (turn xs)) 0 (length xs + 1)
