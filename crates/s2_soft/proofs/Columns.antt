-- The soft values of a codeword's bits, which at 8PSK stand in three columns.
use Rattle.std.proofs.Common.{◌-ℤ◌, ◌≤◌, subst, ◌≡◌, ◌≢◌, ℕ, ◌+◌, ◌-◌, ◌*◌, ◌/◌, ◌%◌, ◌<◌, true, false, List, ◌++◌, ℤ, pos, length, refl, ap, sym, ◌∙◌, arith, inl, inr}
use Rattle.std.specs.Prelude.{◌==◌}
use Rattle.std.proofs.lemmas.Bool.{cases_lt, eq-eqb, ne_eqb}
use Rattle.std.proofs.lemmas.List.{get_or_append_left, get_or-append_right, get_or_past}
use Rattle.std.proofs.lemmas.Int.{ints, clamps}
use Rattle.std.proofs.lemmas.List.FromFn.{get_or-map-range_with_len, length-map-range_with_len}
use Rattle.s2_mode.specs.declared.symbols.Symbol.{Symbol}
use Rattle.s2_mode.specs.Symbols.{symbol_at}
use Rattle.s2_mode.specs.Mode.{Mode, IsMode, is_qpsk, n_of, width_of}
use Rattle.s2_map.specs.Mapping.{column_of, place_of, sent_as}
use Rattle.s2_map.proofs.Labels.{width_qpsk, width_psk}
use Rattle.s2_map.proofs.Places.{sent_qpsk, sent_psk, sent_place}
use Rattle.s2_soft.specs.Soft.{least_distance, soft_values, InRange, quantized, soft_value, soft_bit, value_at}
use Rattle.s2_soft.specs.Closed.{component_difference, first_difference, second_difference, third_difference}
use Rattle.s2_soft.specs.Lanes.{component_at}
use Rattle.s2_soft.proofs.Components.{is_i, is_q}
use Rattle.s2_soft.proofs.Distances.{qpsk_first, qpsk_second, psk_first, psk_second, psk_third}

-- ---- QPSK

pub qpsk_bit : (d : ℕ) (m : Mode) (payload : List Symbol) (b s j : ℕ) → is_qpsk m ≡ true → b / 2 ≡ s → b % 2 ≡ j → soft_bit d m payload b ≡ soft_value d m (symbol_at payload s) j
qpsk_bit d m payload b s j e row column =
    let place : sent_as m b / width_of m ≡ s = (λ t. sent_qpsk m b e t / width_qpsk m e t) ∙ row in
    let bit : sent_as m b % width_of m ≡ j = (λ t. sent_qpsk m b e t % width_qpsk m e t) ∙ column in
    λ t. soft_value d m (symbol_at payload (place t)) (bit t)

pub qpsk_values : (d : ℕ) (m : Mode) (payload : List Symbol) (values : List ℤ) (rows : ℕ) → is_qpsk m ≡ true
    → ((b : ℕ) → b < 2 * rows → value_at values b ≡ quantized d (component_difference (component_at payload b)))
    → (b : ℕ) → b < 2 * rows → value_at values b ≡ soft_bit d m payload b
qpsk_values d m payload values rows e holds b lt =
    let s = b / 2 in
    elim (cases_lt (b % 2) 1) [
      | inl even ↦
          let at : b ≡ 2 * s = omega arith in
          let bit : b % 2 ≡ 0 = omega arith in
          holds b lt ∙ (ap (λ z. quantized d (component_difference z)) (is_i payload b s at) ∙ sym (qpsk_bit d m payload b s 0 e (λ t. s) bit ∙ ap (quantized d) (qpsk_first m (symbol_at payload s) e)))
      | inr odd ↦
          let at : b ≡ 2 * s + 1 = omega arith in
          let bit : b % 2 ≡ 1 = omega arith in
          holds b lt ∙ (ap (λ z. quantized d (component_difference z)) (is_q payload b s at) ∙ sym (qpsk_bit d m payload b s 1 e (λ t. s) bit ∙ ap (quantized d) (qpsk_second m (symbol_at payload s) e)))
    ]

-- ---- 8PSK

psk_bit : (d : ℕ) (m : Mode) (payload : List Symbol) (a rows s j : ℕ) → is_qpsk m ≡ false → n_of m ≡ 3 * rows → s < rows → column_of m a ≡ j → j < 3
    → soft_bit d m payload (a * rows + s) ≡ soft_value d m (symbol_at payload s) j
psk_bit d m payload a rows s j e long lt column small =
    let third : n_of m / 3 ≡ rows = omega arith in
    let sent : sent_as m (a * rows + s) ≡ 3 * s + j = sent_psk m a rows s e third lt ∙ ap (λ c. 3 * s + c) column in
    let row : (3 * s + j) / 3 ≡ s = omega arith in
    let label : (3 * s + j) % 3 ≡ j = omega arith in
    let place : sent_as m (a * rows + s) / width_of m ≡ s = (λ t. sent t / width_psk m e t) ∙ row in
    let bit : sent_as m (a * rows + s) % width_of m ≡ j = (λ t. sent t % width_psk m e t) ∙ label in
    λ t. soft_value d m (symbol_at payload (place t)) (bit t)

-- three columns behind one another
three_columns : (xs ys zs : List ℤ) (rows : ℕ) (f : ℕ → ℤ) → length xs ≡ rows → length ys ≡ rows
    → ((s : ℕ) → s < rows → value_at xs s ≡ f (0 * rows + s)) → ((s : ℕ) → s < rows → value_at ys s ≡ f (1 * rows + s)) → ((s : ℕ) → s < rows → value_at zs s ≡ f (2 * rows + s))
    → (b : ℕ) → b < 3 * rows → value_at (xs ++ (ys ++ zs)) b ≡ f b
three_columns xs ys zs rows f long_x long_y x y z b lt = elim (cases_lt b rows) [
  | inl first ↦
      let e : 0 * rows + b ≡ b = omega arith in
      get_or_append_left xs (ys ++ zs) (pos 0) b (omega arith) ∙ (x b first ∙ ap f e)
  | inr later ↦
      get_or-append_right xs (ys ++ zs) rows b (pos 0) long_x later
      ∙ elim (cases_lt (b - rows) rows) [
        | inl second ↦
            let e : 1 * rows + (b - rows) ≡ b = omega arith in
            get_or_append_left ys zs (pos 0) (b - rows) (omega arith) ∙ (y (b - rows) second ∙ ap f e)
        | inr last ↦
            let e : 2 * rows + (b - rows - rows) ≡ b = omega arith in
            let inside : b - rows - rows < rows = omega arith in
            get_or-append_right ys zs rows (b - rows) (pos 0) long_y last ∙ (z (b - rows - rows) inside ∙ ap f e)
      ]
]

pub first_bit : (d : ℕ) (m : Mode) (payload : List Symbol) (a rows s : ℕ) → is_qpsk m ≡ false → n_of m ≡ 3 * rows → s < rows → column_of m a ≡ 0
    → quantized d (first_difference (symbol_at payload s).i (symbol_at payload s).q) ≡ soft_bit d m payload (a * rows + s)
first_bit d m payload a rows s e long lt column =
    sym (psk_bit d m payload a rows s 0 e long lt column (omega arith) ∙ ap (quantized d) (psk_first m (symbol_at payload s) e))

pub second_bit : (d : ℕ) (m : Mode) (payload : List Symbol) (a rows s : ℕ) → is_qpsk m ≡ false → n_of m ≡ 3 * rows → s < rows → column_of m a ≡ 1
    → quantized d (second_difference (symbol_at payload s).i (symbol_at payload s).q) ≡ soft_bit d m payload (a * rows + s)
second_bit d m payload a rows s e long lt column =
    sym (psk_bit d m payload a rows s 1 e long lt column (omega arith) ∙ ap (quantized d) (psk_second m (symbol_at payload s) e))

pub third_bit : (d : ℕ) (m : Mode) (payload : List Symbol) (a rows s : ℕ) → is_qpsk m ≡ false → n_of m ≡ 3 * rows → s < rows → column_of m a ≡ 2
    → quantized d (third_difference (symbol_at payload s).i (symbol_at payload s).q) ≡ soft_bit d m payload (a * rows + s)
third_bit d m payload a rows s e long lt column =
    sym (psk_bit d m payload a rows s 2 e long lt column (omega arith) ∙ ap (quantized d) (psk_third m (symbol_at payload s) e))

-- what a loop over the rows has written into three columns
pub record HoldsRows (d : ℕ) (payload : List Symbol) (rows : ℕ) (first second third : List ℤ) : Type 0 where
  pub first_is : (s : ℕ) → s < rows → value_at first s ≡ quantized d (first_difference (symbol_at payload s).i (symbol_at payload s).q)
  pub second_is : (s : ℕ) → s < rows → value_at second s ≡ quantized d (second_difference (symbol_at payload s).i (symbol_at payload s).q)
  pub third_is : (s : ℕ) → s < rows → value_at third s ≡ quantized d (third_difference (symbol_at payload s).i (symbol_at payload s).q)

pub forward : (d : ℕ) (m : Mode) (payload : List Symbol) (rows : ℕ) (first second third : List ℤ) → is_qpsk m ≡ false → n_of m ≡ 3 * rows → m.modcod ≢ 12
    → length first ≡ rows → length second ≡ rows → HoldsRows d payload rows first second third
    → (b : ℕ) → b < n_of m → value_at (first ++ (second ++ third)) b ≡ soft_bit d m payload b
forward d m payload rows first second third e long other long_1 long_2 holds b lt =
    let is_first : (m.modcod == 12) ≡ false = ne_eqb m.modcod 12 other in
    let c_0 : column_of m 0 ≡ 0 = rw is_first in
    let c_1 : column_of m 1 ≡ 1 = rw is_first in
    let c_2 : column_of m 2 ≡ 2 = rw is_first in
    three_columns first second third rows (soft_bit d m payload) long_1 long_2
    (λ s l. holds.first_is s l ∙ first_bit d m payload 0 rows s e long l c_0)
    (λ s l. holds.second_is s l ∙ second_bit d m payload 1 rows s e long l c_1)
    (λ s l. holds.third_is s l ∙ third_bit d m payload 2 rows s e long l c_2)
    b (omega arith)

pub reversed : (d : ℕ) (m : Mode) (payload : List Symbol) (rows : ℕ) (first second third : List ℤ) → is_qpsk m ≡ false → n_of m ≡ 3 * rows → m.modcod ≡ 12
    → length third ≡ rows → length second ≡ rows → HoldsRows d payload rows first second third
    → (b : ℕ) → b < n_of m → value_at (third ++ (second ++ first)) b ≡ soft_bit d m payload b
reversed d m payload rows first second third e long is long_1 long_2 holds b lt =
    let is_last : (m.modcod == 12) ≡ true = eq-eqb m.modcod 12 is in
    let c_0 : column_of m 0 ≡ 2 = rw is_last in
    let c_1 : column_of m 1 ≡ 1 = rw is_last in
    let c_2 : column_of m 2 ≡ 0 = rw is_last in
    three_columns third second first rows (soft_bit d m payload) long_1 long_2
    (λ s l. holds.third_is s l ∙ third_bit d m payload 0 rows s e long l c_0)
    (λ s l. holds.second_is s l ∙ second_bit d m payload 1 rows s e long l c_1)
    (λ s l. holds.first_is s l ∙ first_bit d m payload 2 rows s e long l c_2)
    b (omega arith)

-- ---- places

pub value_at_place : (d : ℕ) (m : Mode) (payload : List Symbol) (i : ℕ) → IsMode m → i < n_of m
    → value_at (soft_values d m payload) (place_of m i) ≡ soft_value d m (symbol_at payload (i / width_of m)) (i % width_of m)
value_at_place d m payload i is lt =
    let at : (place_of m i < n_of m) × (sent_as m (place_of m i) ≡ i) = sent_place m (is_qpsk m) i is refl lt in
    let within : place_of m i < n_of m = at.0 in
    let here : 0 + place_of m i ≡ place_of m i = omega arith in
    get_or-map-range_with_len (soft_bit d m payload) 0 (n_of m) (place_of m i) (place_of m i) (pos 0) within here
    ∙ (λ t. soft_value d m (symbol_at payload (at.1 t / width_of m)) (at.1 t % width_of m))

-- ---- the range

pub quantized_in_range : (d : ℕ) (z : ℤ) → InRange (quantized d z)
quantized_in_range d z = omega (arith, ints, clamps)

pub soft_in_range : (d : ℕ) (m : Mode) (s : Symbol) (j : ℕ) → InRange (soft_value d m s j)
soft_in_range d m s j = quantized_in_range d (least_distance m s j true -ℤ least_distance m s j false)

pub values_in_range : (d : ℕ) (m : Mode) (payload : List Symbol) (k : ℕ) → InRange (value_at (soft_values d m payload) k)
values_in_range d m payload k = elim (cases_lt k (n_of m)) [
  | inl inside ↦
      let here : 0 + k ≡ k = omega arith in
      subst InRange (sym (get_or-map-range_with_len (soft_bit d m payload) 0 (n_of m) k k (pos 0) inside here)) (soft_in_range d m (symbol_at payload (sent_as m k / width_of m)) (sent_as m k % width_of m))
  | inr past ↦
      let long : length (soft_values d m payload) ≤ k = omega (arith, length-map-range_with_len (soft_bit d m payload) 0 (n_of m)) in
      subst InRange (sym (get_or_past (soft_values d m payload) k (pos 0) long)) (record { low = omega (arith, ints); high = omega (arith, ints) })
]
