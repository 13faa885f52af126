-- The interleaver and its inverse.
use Rattle.std.proofs.Common.{◌≡◌, ℕ, ◌+◌, ◌*◌, ◌/◌, ◌%◌, ◌<◌, Bool, true, false, ap, sym, subst, ◌∙◌, arith, inl, inr, refl}
use Rattle.std.proofs.lemmas.Bool.Decides.{eqb_tells}
use Rattle.std.proofs.lemmas.Nat.{div-mul-add, mod-mul-add, mul-add-lt}
use Rattle.std.proofs.Math.Nat.{div-lt_iff_lt-mul, div-add-mod, mul_comm}
use Rattle.s2_mode.specs.Mode.{Mode, IsMode, is_qpsk, n_of, slots_of}
use Rattle.s2_mode.proofs.Modes.{frame_sizes}
use Rattle.s2_map.specs.Mapping.{column_of, place_of, sent_as}
use Rattle.s2_map.specs.Permutation.{IsInterleaver}
use Rattle.s2_map.proofs.Labels.{width_psk, place_qpsk, place_psk}

pub sent_qpsk : (m : Mode) (b : ℕ) → is_qpsk m ≡ true → sent_as m b ≡ b
sent_qpsk m b e = rw e

-- row s of column a
pub sent_psk : (m : Mode) (a rows s : ℕ) → is_qpsk m ≡ false → n_of m / 3 ≡ rows → s < rows → sent_as m (a * rows + s) ≡ 3 * s + column_of m a
sent_psk m a rows s e third lt =
    rw e ((λ t. 3 * ((a * rows + s) % third t) + column_of m ((a * rows + s) / third t))
    ∙ (λ t. 3 * mod-mul-add a rows s lt t + column_of m (div-mul-add a rows s lt t)))

-- the columns are read in an order that is its own inverse
involution : (m : Mode) (c : ℕ) → c < 3 → column_of m (column_of m c) ≡ c
involution m c lt = elim (eqb_tells m.modcod 12) [
  | inl same ↦ rw same.0 (omega arith)
  | inr other ↦ rw other.0 refl
]

column_small : (m : Mode) (c : ℕ) → c < 3 → column_of m c < 3
column_small m c lt = elim (eqb_tells m.modcod 12) [
  | inl same ↦ rw same.0 (omega arith)
  | inr other ↦ rw other.0 lt
]

-- n bits are three columns
pub three_columns : (m : Mode) → IsMode m → is_qpsk m ≡ false → n_of m ≡ 3 * (n_of m / 3)
three_columns m is e =
    let sizes = frame_sizes m is in
    let long : n_of m ≡ 3 * (90 * slots_of m) = sizes.payload ∙ (λ t. width_psk m e t * (90 * slots_of m)) in
    omega arith

-- what is sent is what stands at its place
pub sent_place : (m : Mode) (qpsk : Bool) (i : ℕ) → IsMode m → is_qpsk m ≡ qpsk → i < n_of m → (place_of m i < n_of m) × (sent_as m (place_of m i) ≡ i)
sent_place m true i is e lt = (
  subst (λ p. p < n_of m) (sym (place_qpsk m e i)) lt,
  ap (sent_as m) (place_qpsk m e i) ∙ sent_qpsk m i e,
)
sent_place m false i is e lt =
    let rows = n_of m / 3 in
    let whole : n_of m ≡ 3 * rows = three_columns m is e in
    let row : i / 3 < rows = omega arith in
    let small : i % 3 < 3 = omega arith in
    let back : 3 * (i / 3) + i % 3 ≡ i = omega arith in
    let place : place_of m i ≡ column_of m (i % 3) * rows + i / 3 = ap (place_of m) (sym back) ∙ place_psk m e (i / 3) (i % 3) small in
    let fits : column_of m (i % 3) * rows + i / 3 < rows * 3 = mul-add-lt (column_of m (i % 3)) rows (i / 3) 3 (column_small m (i % 3) small) row in (
      subst (λ p. p < n_of m) (sym place) (omega arith),
      ap (sent_as m) place ∙ (sent_psk m (column_of m (i % 3)) rows (i / 3) e refl row ∙ (ap (λ c. 3 * (i / 3) + c) (involution m (i % 3) small) ∙ back)),
    )

-- and what stands at a place is sent from there
place_sent : (m : Mode) (qpsk : Bool) (b : ℕ) → IsMode m → is_qpsk m ≡ qpsk → b < n_of m → (sent_as m b < n_of m) × (place_of m (sent_as m b) ≡ b)
place_sent m true b is e lt = (
  subst (λ p. p < n_of m) (sym (sent_qpsk m b e)) lt,
  ap (place_of m) (sent_qpsk m b e) ∙ place_qpsk m e b,
)
place_sent m false b is e lt =
    let rows = n_of m / 3 in
    let whole : n_of m ≡ 3 * rows = three_columns m is e in
    let s = b % rows in
    let a = b / rows in
    let row : s < rows = omega arith in
    let some : 0 < rows = omega arith in
    let inside : b < 3 * rows = omega arith in
    let column : a < 3 = (div-lt_iff_lt-mul {k = rows} {x = b} {y = 3} some).1 inside in
    let whole_b : rows * a + s ≡ b = div-add-mod b rows in
    let turned : rows * a ≡ a * rows = mul_comm rows a in
    let back : a * rows + s ≡ b = omega arith in
    let small : column_of m a < 3 = column_small m a column in
    let sent : sent_as m b ≡ 3 * s + column_of m a = rw e in (
      subst (λ p. p < n_of m) (sym sent) (omega arith),
      ap (place_of m) sent ∙ (place_psk m e s (column_of m a) small ∙ (ap (λ c. c * rows + s) (involution m a column) ∙ back)),
    )

pub interleaver_is : (m : Mode) → IsMode m → IsInterleaver m
interleaver_is m is =
    let there = λ (i : ℕ) (lt : i < n_of m). sent_place m (is_qpsk m) i is refl lt in
    let back = λ (b : ℕ) (lt : b < n_of m). place_sent m (is_qpsk m) b is refl lt in
    record {
      permutes = record {
        within = λ i lt. (there i lt).0;
        each = λ b lt. (sent_as m b, (back b lt).0, (back b lt).1);
        once = λ i j lt_i lt_j same. sym (there i lt_i).1 ∙ (ap (sent_as m) same ∙ (there j lt_j).1);
      };
      sent = λ i lt. (there i lt).1;
      back = back;
    }
