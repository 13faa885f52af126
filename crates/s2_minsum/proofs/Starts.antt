-- The state of soft values with all messages 0, and how many rows there are.
use Rattle.std.proofs.Common.{◌≡◌, ℕ, zero, suc, ◌+◌, ◌*◌, ◌/◌, ◌%◌, ◌<◌, ◌≤◌, Bool, true, false, cond, map, int_lt, List, ◌++◌, take, drop, replicate, length, get_or, ℤ, pos, refl, ap, sym, ◌∙◌, inl, inr, arith}
use Rattle.std.proofs.Math.Nat.{mul-le-mul_right}
use Rattle.std.proofs.lemmas.Bool.{cases_lt}
use Rattle.std.proofs.lemmas.List.{get_or-map, length-map, same_lists, get_or_default, get_or-replicate, length-replicate, get_or_past}
use Rattle.std.proofs.Math.Seq.{take-append_seam}
use Rattle.std.proofs.lemmas.Int.{ints}
use Rattle.s2_mode.specs.Shape.{IsShape, code_bits}
use Rattle.s2_rows.specs.Rows.{Rows}
use Rattle.s2_matrix.specs.Code.{code_of, checks_of}
use Rattle.s2_matrix.proofs.Totals.{total-zero}
use Rattle.s2_matrix.proofs.Members.{length-members}
use Rattle.s2_mode.specs.Limits.{max_soft}
use Rattle.s2_minsum.specs.Plain.{is_edge, posterior, start, decision}
use Rattle.s2_bits.specs.Lanes16.{signed16}
use Rattle.s2_minsum.specs.Rows.{cell}
use Rattle.s2_minsum.specs.Layout.{row_of_bit, lane_of_bit, bit_of, last_check, place_at, first_row, kept_of, state_of}
use Rattle.s2_minsum.specs.Decoding.{AreNumbers, AreWithin, is_one}
use Rattle.s2_minsum.proofs.Places
use Rattle.s2_minsum.proofs.WordLemmas.{negative_is}
use Rattle.s2_matrix.specs.Total.{upto}
use Rattle.std.proofs.lemmas.List.FromFn.{length-range_with_len, get_or-range_with_len}
use Rattle.s2_minsum.proofs.FirstRows.{first_row_more}

none_sent : (b : Bool) (v : ℕ) → v ≡ 0 → cond b (signed16 v) (pos 0) ≡ pos 0
none_sent false v is = refl
none_sent true v is = ap signed16 is

pub start_is : (rows : Rows) (soft : List ℤ) (messages : List ℕ) → ((k : ℕ) → get_or messages k 0 ≡ 0) → state_of rows soft (kept_of rows messages) ≡ start soft
start_is rows soft messages none =
    λ x. record { soft = soft; message = λ j i. none_sent (is_edge (code_of rows) j i) (kept_of rows messages (j % rows.shape.q) (place_at rows j i) (j / rows.shape.q)) (none ((first_row rows (j % rows.shape.q) + place_at rows j i) * rows.shape.group + j / rows.shape.q)) x }

pub started : (rows : Rows) (soft : List ℤ) (messages posteriors : List ℕ) → length soft ≡ code_bits rows.shape → AreWithin max_soft soft → ((k : ℕ) → get_or messages k 0 ≡ 0) → length messages ≡ first_row rows rows.shape.q * rows.shape.group → length posteriors ≡ code_bits rows.shape → ((k : ℕ) → get_or posteriors k 0 < 65536)
    → ((row lane : ℕ) → row < rows.shape.groups + rows.shape.q → lane < rows.shape.group → signed16 (cell posteriors rows.shape.group row lane) ≡ get_or soft (bit_of rows.shape row lane) (pos 0))
    → AreNumbers rows soft messages posteriors
started rows soft messages posteriors soft_long small none long posteriors_long fit are = record {
  soft_long = soft_long;
  soft_small = small;
  messages_long = long;
  messages_small = λ k d h. rw (get_or_default messages k d 0 h, none k) (omega arith);
  fits = λ k. let is = none k in omega arith;
  posteriors_fit = fit;
  posteriors_long = posteriors_long;
  posteriors_are = λ row lane high low.
      let i = bit_of rows.shape row lane in
      let code = code_of rows in
      let zero' : posterior code (start soft) i ≡ get_or soft i (pos 0) = (let t = total-zero (checks_of code i) in omega (arith, ints, t)) in
      are row lane high low ∙ sym zero' ∙ ap (λ s. posterior code s i) (sym (start_is rows soft messages none));
}

at_least : (g q m : ℕ) → 1 ≤ g → q ≤ g * (m + q)
at_least g q m some =
    let one : 1 * (m + q) ≤ g * (m + q) = mul-le-mul_right (m + q) some in
    omega (arith, one)

pub first_row_few : (rows : Rows) (r : ℕ) → first_row rows r ≤ r * code_bits rows.shape
first_row_few rows zero = omega arith
first_row_few rows (suc r) =
    let one : suc r ≡ r + 1 = omega arith in
    let rest = first_row_few rows r in
    let own = length-members (code_of rows) (last_check rows.shape r) in
    omega (arith, rest, own, first_row_more rows r, ap (first_row rows) one)

pub zeros : (n k : ℕ) → get_or {A = ℕ} (replicate n 0) k 0 ≡ 0
zeros n k = elim (cases_lt k n) [
  | inl lt ↦ get_or-replicate {A = ℕ} n k 0 0 lt
  | inr le ↦ get_or_past (replicate {A = ℕ} n 0) k 0 (omega (arith, length-replicate {A = ℕ} n 0))
]

pub zeros_ℤ : (n k : ℕ) → get_or {A = ℤ} (replicate n (pos 0)) k (pos 0) ≡ pos 0
zeros_ℤ n k = elim (cases_lt k n) [
  | inl lt ↦ get_or-replicate n k (pos 0) (pos 0) lt
  | inr le ↦ get_or_past (replicate n (pos 0)) k (pos 0) (omega (arith, length-replicate n (pos 0)))
]

pub rewritten : {A : Type 0} (n : ℕ) (ys old : List A) → length ys ≡ n → take n (ys ++ drop (length ys) old) ≡ ys
rewritten n ys old long =
    ap (λ k. take k (ys ++ drop (length ys) old)) (sym long) ∙ take-append_seam ys (drop (length ys) old)

pub rows_few : (rows : Rows) → IsShape rows.shape → first_row rows rows.shape.q ≤ 64800 * 64800
rows_few rows shaped =
    let n = code_bits rows.shape in
    let q = rows.shape.q in
    let few = shaped.few in
    let some = shaped.group_some in
    let q_few : q ≤ n = at_least rows.shape.group q rows.shape.groups some in
    let one : q * n ≤ 64800 * n = mul-le-mul_right n (omega arith) in
    omega (arith, first_row_few rows q, one)

-- the hard decision, by the stored posteriors
pub decision_is : (rows : Rows) (soft : List ℤ) (messages posteriors : List ℕ) (bits : List Bool) → IsShape rows.shape → AreNumbers rows soft messages posteriors → length bits ≡ code_bits rows.shape → ((i : ℕ) → i < code_bits rows.shape → get_or bits i false ≡ is_one rows.shape posteriors i) → bits ≡ decision (code_of rows) (state_of rows soft (kept_of rows messages))
decision_is rows soft messages posteriors bits shaped d long are =
    let s = rows.shape in
    let n = code_bits s in
    let code = code_of rows in
    let state = state_of rows soft (kept_of rows messages) in
    let by_bit = λ (i : ℕ). int_lt (posterior code state i) (pos 0) in
    let long' = length-map (upto n) by_bit ∙ length-range_with_len 0 n in
    same_lists bits (map by_bit (upto n)) (long ∙ sym long') (λ i e lt.
    let low : i < n = omega (arith, long) in
    let short : i < length (upto n) = omega (arith, length-range_with_len 0 n) in
    let place : get_or (upto n) i 0 ≡ i = omega (arith, get_or-range_with_len 0 n i 0 low) in
    let row = row_of_bit s i in
    let lane = lane_of_bit s i in
    let v = cell posteriors s.group row lane in
    let is : signed16 v ≡ posterior code state i = d.posteriors_are row lane (Places.row_below s shaped i low) (Places.lane_below s shaped i low) ∙ ap (posterior code state) (Places.bit_again s shaped i low) in
    get_or_default bits i e false lt ∙ are i low ∙ negative_is v (d.posteriors_fit (row * s.group + lane)) ∙ ap (λ z. int_lt z (pos 0)) is ∙ ap by_bit (sym place) ∙ sym (get_or-map by_bit (upto n) i 0 e short))
