-- The labels of codewords: the bits of each, and its points.
use Rattle.std.proofs.Common.{◌≡◌, ℕ, ◌+◌, ◌*◌, ◌<◌, ◌≤◌, Bool, true, false, List, Result, Ok, Err, OnOk, OnErr, inl, inr, refl, sym, ap, ◌∙◌, arith}
use Rattle.std.specs.List.{range_with_len}
use Rattle.std.proofs.lemmas.Bool.{cases_Bool}
use Rattle.std.proofs.lemmas.Simd.{map-map}
use Rattle.s2_mode.specs.Mode.{Mode, IsMode, is_qpsk, n_of, slots_of}
use Rattle.s2_mode.proofs.Modes.{frame_sizes}
use Rattle.s2_bits.specs.Bits.{bit_at, number}
use Rattle.s2_map.specs.Mapping.{label_of, place_of, point_of}
use Rattle.s2_map.proofs.Labels.{width_qpsk, width_psk}
use Rattle.s2_records.specs.Vectors.{PointsLaw, label_at}

pub most_bits : (m : Mode) → n_of m ≤ 64800
unfolding n_of
most_bits m = elim (cases_Bool m.short) [
  | inl short ↦ let size : n_of m ≡ 16200 = rw short refl in omega (arith, size)
  | inr normal ↦ let size : n_of m ≡ 64800 = rw normal refl in omega (arith, size)
]

-- the bits of a symbol are bits of the codeword
pub within_two : (m : Mode) (s : ℕ) → IsMode m → is_qpsk m ≡ true → s < 90 * slots_of m → 2 * s + 1 < n_of m
within_two m s is e lt =
    let long : n_of m ≡ 2 * (90 * slots_of m) = (frame_sizes m is).payload ∙ ap (λ w. w * (90 * slots_of m)) (width_qpsk m e) in
    omega (arith, long, lt)

pub within_three : (m : Mode) (s : ℕ) → IsMode m → is_qpsk m ≡ false → s < 90 * slots_of m → 3 * s + 2 < n_of m
within_three m s is e lt =
    let long : n_of m ≡ 3 * (90 * slots_of m) = (frame_sizes m is).payload ∙ ap (λ w. w * (90 * slots_of m)) (width_psk m e) in
    omega (arith, long, lt)

two_bits : (bit : ℕ → Bool) → label_of 2 bit ≡ 2 * number (bit 0) + number (bit 1)
unfolding label_of
two_bits bit = omega arith

three_bits : (bit : ℕ → Bool) → label_of 3 bit ≡ 2 * (2 * number (bit 0) + number (bit 1)) + number (bit 2)
unfolding label_of
three_bits bit = omega arith

-- bits of a codeword by their places in the payload
abbrev pub bit_of : Mode → List Bool → ℕ → ℕ
bit_of m codeword i = number (bit_at codeword (place_of m i))

pub two_are : (m : Mode) (codeword : List Bool) (s : ℕ) → is_qpsk m ≡ true → 2 * bit_of m codeword (2 * s) + bit_of m codeword (2 * s + 1) ≡ label_at m codeword s
two_are m codeword s e =
    let first : 2 * s ≡ 2 * s + 0 = omega arith in
    (λ t. 2 * bit_of m codeword (first t) + bit_of m codeword (2 * s + 1))
    ∙ (sym (two_bits (λ j. bit_at codeword (place_of m (2 * s + j)))) ∙ sym (ap (λ w. label_of w (λ j. bit_at codeword (place_of m (w * s + j)))) (width_qpsk m e)))

pub three_are : (m : Mode) (codeword : List Bool) (s : ℕ) → is_qpsk m ≡ false
    → 2 * (2 * bit_of m codeword (3 * s) + bit_of m codeword (3 * s + 1)) + bit_of m codeword (3 * s + 2) ≡ label_at m codeword s
three_are m codeword s e =
    let first : 3 * s ≡ 3 * s + 0 = omega arith in
    (λ t. 2 * (2 * bit_of m codeword (first t) + bit_of m codeword (3 * s + 1)) + bit_of m codeword (3 * s + 2))
    ∙ (sym (three_bits (λ j. bit_at codeword (place_of m (3 * s + j)))) ∙ sym (ap (λ w. label_of w (λ j. bit_at codeword (place_of m (w * s + j)))) (width_psk m e)))

pub points_lem : PointsLaw
points_lem m codeword = map-map (point_of m) (label_at m codeword) (range_with_len 0 (90 * slots_of m))

-- what a writer took, or a part of it, beside the mode of the sink
pub same_taken : {T E : Type 0} (P : Type 0) (m : Mode) (r : Result T E) → OnOk r P → OnOk r ((m ≡ m) × P)
same_taken P m (Ok done) h = (refl, h)
same_taken P m (Err fault) h = tt

pub same_fails : {T E : Type 0} (P : Type 0) (m : Mode) (r : Result T E) → OnErr r P → OnErr r ((m ≡ m) × P)
same_fails P m (Ok done) h = tt
same_fails P m (Err fault) h = (refl, h)
