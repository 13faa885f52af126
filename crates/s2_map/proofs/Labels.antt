-- Payload symbols of QPSK and of 8PSK, each bit of a label named.
use Rattle.std.proofs.Common.{◌≡◌, ◌≢◌, ℕ, ◌+◌, ◌*◌, ◌/◌, ◌%◌, ◌<◌, Bool, true, false, List, take, drop, ap, sym, ◌∙◌, arith}
use Rattle.std.specs.Prelude.{◌==◌}
use Rattle.std.proofs.lemmas.Bool.{eq-eqb, ne_eqb}
use Rattle.std.proofs.lemmas.List.{get_or-take, get_or-drop}
use Rattle.s2_mode.specs.Symbols.{symbol_at}
use Rattle.s2_mode.specs.Mode.{Mode, is_qpsk, n_of, width_of}
use Rattle.s2_bits.specs.Bits.{bit_at, number}
use Rattle.s2_map.specs.Mapping.{column_of, place_of, qpsk_points, psk_points, points, point_of, label_of, payload_symbol}

pub width_qpsk : (m : Mode) → is_qpsk m ≡ true → width_of m ≡ 2
unfolding width_of
width_qpsk m e = rw e

pub width_psk : (m : Mode) → is_qpsk m ≡ false → width_of m ≡ 3
unfolding width_of
width_psk m e = rw e

label_of_two : (bit : ℕ → Bool) → label_of 2 bit ≡ 2 * number (bit 0) + number (bit 1)
unfolding label_of
label_of_two bit = omega arith

label_of_three : (bit : ℕ → Bool) → label_of 3 bit ≡ 4 * number (bit 0) + 2 * number (bit 1) + number (bit 2)
unfolding label_of
label_of_three bit = omega arith

pub place_qpsk : (m : Mode) → is_qpsk m ≡ true → (i : ℕ) → place_of m i ≡ i
place_qpsk m e i = rw e

points_qpsk : (m : Mode) → is_qpsk m ≡ true → points m ≡ qpsk_points
points_qpsk m e = rw e

points_psk : (m : Mode) → is_qpsk m ≡ false → points m ≡ psk_points
points_psk m e = rw e

pub qpsk_symbol : (m : Mode) (codeword : List Bool) (s : ℕ) → is_qpsk m ≡ true → payload_symbol m codeword s ≡ symbol_at qpsk_points (2 * number (bit_at codeword (2 * s)) + number (bit_at codeword (2 * s + 1)))
qpsk_symbol m codeword s e =
    let first : 2 * s + 0 ≡ 2 * s = omega arith in
    ap (λ w. point_of m (label_of w (λ j. bit_at codeword (place_of m (w * s + j))))) (width_qpsk m e)
    ∙ (ap (λ ps. symbol_at ps (label_of 2 (λ j. bit_at codeword (place_of m (2 * s + j))))) (points_qpsk m e)
    ∙ ap (symbol_at qpsk_points)
    (label_of_two (λ j. bit_at codeword (place_of m (2 * s + j)))
    ∙ (λ t. 2 * number (bit_at codeword ((place_qpsk m e (2 * s + 0) ∙ first) t)) + number (bit_at codeword (place_qpsk m e (2 * s + 1) t)))))

-- row s of column c
pub place_psk : (m : Mode) → is_qpsk m ≡ false → (s c : ℕ) → c < 3 → place_of m (3 * s + c) ≡ column_of m c * (n_of m / 3) + s
place_psk m e s c lt =
    let row : (3 * s + c) / 3 ≡ s = omega arith in
    let column : (3 * s + c) % 3 ≡ c = omega arith in
    rw e (λ t. column_of m (column t) * (n_of m / 3) + row t)

-- the bits of row s of a codeword that is three columns
first_bit : (codeword : List Bool) (rows s : ℕ) → s < rows → bit_at codeword s ≡ bit_at (take rows codeword) s
first_bit codeword rows s lt = sym (get_or-take rows codeword s false lt)

second_bit : (codeword : List Bool) (rows s : ℕ) → s < rows → bit_at codeword (rows + s) ≡ bit_at (take rows (drop rows codeword)) s
second_bit codeword rows s lt = sym (get_or-take rows (drop rows codeword) s false lt ∙ get_or-drop rows codeword s false)

third_bit : (codeword : List Bool) (rows s : ℕ) → bit_at codeword (rows + (rows + s)) ≡ bit_at (drop rows (drop rows codeword)) s
third_bit codeword rows s = sym (get_or-drop rows (drop rows codeword) s false ∙ get_or-drop rows codeword (rows + s) false)

psk_bits : (m : Mode) (codeword : List Bool) (s : ℕ) (first second third : Bool) → is_qpsk m ≡ false
    → bit_at codeword (column_of m 0 * (n_of m / 3) + s) ≡ first
    → bit_at codeword (column_of m 1 * (n_of m / 3) + s) ≡ second
    → bit_at codeword (column_of m 2 * (n_of m / 3) + s) ≡ third
    → payload_symbol m codeword s ≡ symbol_at psk_points (4 * number first + 2 * number second + number third)
psk_bits m codeword s first second third e a b c =
    let x = ap (bit_at codeword) (place_psk m e s 0 (omega arith)) ∙ a in
    let y = ap (bit_at codeword) (place_psk m e s 1 (omega arith)) ∙ b in
    let z = ap (bit_at codeword) (place_psk m e s 2 (omega arith)) ∙ c in
    ap (λ w. point_of m (label_of w (λ j. bit_at codeword (place_of m (w * s + j))))) (width_psk m e)
    ∙ (ap (λ ps. symbol_at ps (label_of 3 (λ j. bit_at codeword (place_of m (3 * s + j))))) (points_psk m e)
    ∙ ap (symbol_at psk_points)
    (label_of_three (λ j. bit_at codeword (place_of m (3 * s + j)))
    ∙ (λ t. 4 * number (x t) + 2 * number (y t) + number (z t))))

-- at 3/5 the columns are read from the last one
pub psk_reversed : (m : Mode) (codeword : List Bool) (rows s : ℕ) → is_qpsk m ≡ false → n_of m ≡ 3 * rows → m.modcod ≡ 12 → s < rows
    → payload_symbol m codeword s
    ≡ symbol_at psk_points (4 * number (bit_at (drop rows (drop rows codeword)) s) + 2 * number (bit_at (take rows (drop rows codeword)) s) + number (bit_at (take rows codeword) s))
psk_reversed m codeword rows s e long is lt =
    let is_last : (m.modcod == 12) ≡ true = eq-eqb m.modcod 12 is in
    let a : column_of m 0 * (n_of m / 3) + s ≡ rows + (rows + s) = rw is_last (omega arith) in
    let b : column_of m 1 * (n_of m / 3) + s ≡ rows + s = rw is_last (omega arith) in
    let c : column_of m 2 * (n_of m / 3) + s ≡ s = rw is_last (omega arith) in
    psk_bits m codeword s _ _ _ e (ap (bit_at codeword) a ∙ third_bit codeword rows s) (ap (bit_at codeword) b ∙ second_bit codeword rows s lt) (ap (bit_at codeword) c ∙ first_bit codeword rows s lt)

-- else from the first one
pub psk_forward : (m : Mode) (codeword : List Bool) (rows s : ℕ) → is_qpsk m ≡ false → n_of m ≡ 3 * rows → m.modcod ≢ 12 → s < rows
    → payload_symbol m codeword s
    ≡ symbol_at psk_points (4 * number (bit_at (take rows codeword) s) + 2 * number (bit_at (take rows (drop rows codeword)) s) + number (bit_at (drop rows (drop rows codeword)) s))
psk_forward m codeword rows s e long other lt =
    let is_first : (m.modcod == 12) ≡ false = ne_eqb m.modcod 12 other in
    let a : column_of m 0 * (n_of m / 3) + s ≡ s = rw is_first (omega arith) in
    let b : column_of m 1 * (n_of m / 3) + s ≡ rows + s = rw is_first (omega arith) in
    let c : column_of m 2 * (n_of m / 3) + s ≡ rows + (rows + s) = rw is_first (omega arith) in
    psk_bits m codeword s _ _ _ e (ap (bit_at codeword) a ∙ first_bit codeword rows s lt) (ap (bit_at codeword) b ∙ second_bit codeword rows s lt) (ap (bit_at codeword) c ∙ third_bit codeword rows s)
