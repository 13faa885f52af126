-- Which parity bits are suspect: each but the last is in its own check and the next, the last in its own alone.
use Rattle.std.proofs.Common.{◌≡◌, ◌≢◌, ℕ, zero, suc, ◌+◌, ◌-◌, ◌%◌, ◌<◌, ◌≤◌, ◌==◌, ◌&&◌, ◌||◌, nat_le, Bool, true, false, not, cond, List, [], ◌∷◌, filter, length, get_or, inl, inr, refl, sym, ap, ap₂, ◌∙◌, arith, eq-eqb, ne_eqb}
use Rattle.std.specs.List.{list_all, range_with_len}
use Rattle.std.proofs.lemmas.Bool.{cases_eq, cases_lt}
use Rattle.s2_bits.specs.Bits.{xor, bit_at}
use Rattle.s2_mode.specs.Shape.{information_bits, check_count, code_bits}
use Rattle.s2_rows.specs.Rows.{Rows}
use Rattle.s2_matrix.specs.Code.{code_of, checks_of, ones_in}
use Rattle.s2_matrix.proofs.Joins.{parity_has}
use Rattle.s2_split.specs.Scattered.{is_suspect}
use Rattle.s2_split.proofs.Repairs.{AreFixed, fixed_by, suspect_by}

filter_none : (p : ℕ → Bool) (s n : ℕ) → ((i : ℕ) → s ≤ i → p i ≡ false) → filter p (range_with_len s n) ≡ []
filter_none p s zero none = refl
filter_none p s (suc n) none =
    let xs = filter p (range_with_len (s + 1) n) in
    let rest : xs ≡ [] = filter_none p (s + 1) n (λ i h. none i (omega (arith, h))) in
    ap (λ b. cond b (s ∷ xs) xs) (none s (omega arith)) ∙ rest

-- the first number that passes
filter_at : (p : ℕ → Bool) (a s n : ℕ) → s ≤ a → a < s + n → ((i : ℕ) → s ≤ i → i < a → p i ≡ false) → p a ≡ true → filter p (range_with_len s n) ≡ a ∷ filter p (range_with_len (a + 1) (s + n - (a + 1)))
filter_at p a s zero le low none passes = absurd (omega (arith, le, low))
filter_at p a s (suc n) le low none passes =
    let xs = filter p (range_with_len (s + 1) n) in
    elim (cases_eq s a) [
      | inl same ↦ (
          let next : s + 1 ≡ a + 1 = omega (arith, same) in
          let left : n ≡ s + suc n - (a + 1) = omega (arith, same) in
          ap (λ b. cond b (s ∷ xs) xs) (ap p same ∙ passes) ∙ ap₂ (λ (x : ℕ) (l : List ℕ). x ∷ l) same (ap₂ (λ (u v : ℕ). filter p (range_with_len u v)) next left)
          )
      | inr other ↦ (
          let less : s + 1 ≤ a = omega (arith, le, other) in
          let here : s < a = omega (arith, less) in
          let left : s + 1 + n - (a + 1) ≡ s + suc n - (a + 1) = omega arith in
          ap (λ b. cond b (s ∷ xs) xs) (none s (omega arith) here)
          ∙ filter_at p a (s + 1) n less (omega (arith, low)) (λ i h l. none i (omega (arith, h)) l) passes
          ∙ ap (λ v. a ∷ filter p (range_with_len (a + 1) v)) left
          )
    ]

module _ (r : Rows) (j : ℕ) where
  own : (code_of r).has j (information_bits r.shape + j) ≡ true
  own = parity_has r j j ∙ ap (λ b. b || (j + 1 == j)) (eq-eqb j j refl)

  next_one : (code_of r).has (j + 1) (information_bits r.shape + j) ≡ true
  next_one = (let apart : j ≢ j + 1 = λ e. omega (arith, e) in parity_has r j (j + 1) ∙ ap₂ ◌||◌ (ne_eqb j (j + 1) apart) (eq-eqb (j + 1) (j + 1) refl))

  no_other : (i : ℕ) → j ≢ i → j + 1 ≢ i → (code_of r).has i (information_bits r.shape + j) ≡ false
  no_other i a b = parity_has r j i ∙ ap₂ ◌||◌ (ne_eqb j i a) (ne_eqb (j + 1) i b)

  before_own : (i : ℕ) → i < j → (code_of r).has i (information_bits r.shape + j) ≡ false
  before_own i h = no_other i (λ e. omega (arith, e, h)) (λ e. omega (arith, e, h))

  two_checks : j + 1 < check_count r.shape → checks_of (code_of r) (information_bits r.shape + j) ≡ j ∷ (j + 1) ∷ []
  two_checks low =
      let p = λ (i : ℕ). (code_of r).has i (information_bits r.shape + j) in
      let n = check_count r.shape in
      let left = 0 + n - (j + 1) in
      let some : j + 1 < j + 1 + left = omega (arith, low) in
      let rest : filter p (range_with_len (j + 1 + 1) (j + 1 + left - (j + 1 + 1))) ≡ [] = filter_none p (j + 1 + 1) (j + 1 + left - (j + 1 + 1)) (λ i h. no_other i (λ e. omega (arith, e, h)) (λ e. omega (arith, e, h))) in
      filter_at p j 0 n (omega arith) (omega (arith, low)) (λ i h less. before_own i less) own
      ∙ ap (λ l. j ∷ l) (filter_at p (j + 1) (j + 1) left (omega arith) some (λ i h less. absurd (omega (arith, h, less))) next_one)
      ∙ ap (λ l. j ∷ (j + 1) ∷ l) rest

  one_check : j + 1 ≡ check_count r.shape → checks_of (code_of r) (information_bits r.shape + j) ≡ j ∷ []
  one_check last =
      let p = λ (i : ℕ). (code_of r).has i (information_bits r.shape + j) in
      let n = check_count r.shape in
      let none : 0 + n - (j + 1) ≡ 0 = omega (arith, last) in
      filter_at p j 0 n (omega arith) (omega (arith, last)) (λ i h less. before_own i less) own
      ∙ ap (λ v. j ∷ filter p (range_with_len (j + 1) v)) none

both : (a b : Bool) → (a && (b && true)) ≡ (a && b)
both true true = refl
both true false = refl
both false b = refl

flipped_by : (b s : Bool) → xor b s ≡ cond s (not b) b
flipped_by true true = refl
flipped_by true false = refl
flipped_by false true = refl
flipped_by false false = refl

module _ (r : Rows) (hard odd : List Bool) (are : (j : ℕ) → j < check_count r.shape → get_or odd j false ≡ (ones_in (code_of r) hard j % 2 == 1)) where
  suspect_of : (j : ℕ) (js : List ℕ) → checks_of (code_of r) (information_bits r.shape + j) ≡ js → is_suspect (code_of r) hard (information_bits r.shape + j) ≡ (nat_le 2 (length js) && list_all (λ i. get_or odd i false) js)
  suspect_of j js is =
      sym (suspect_by (code_of r) hard odd (information_bits r.shape + j) are)
      ∙ ap (λ (l : List ℕ). nat_le 2 (length l) && list_all (λ i. get_or odd i false) l) is

  pair_fixed : (j : ℕ) → j + 1 < check_count r.shape → xor (bit_at hard (information_bits r.shape + j)) (bit_at odd j && bit_at odd (j + 1)) ≡ fixed_by (code_of r) hard (information_bits r.shape + j)
  pair_fixed j low =
      let b = bit_at hard (information_bits r.shape + j) in
      let suspect = suspect_of j (j ∷ (j + 1) ∷ []) (two_checks r j low) ∙ both (bit_at odd j) (bit_at odd (j + 1)) in
      flipped_by b (bit_at odd j && bit_at odd (j + 1)) ∙ ap (λ s. cond s (not b) b) (sym suspect)

  last_fixed : (j : ℕ) → j + 1 ≡ check_count r.shape → bit_at hard (information_bits r.shape + j) ≡ fixed_by (code_of r) hard (information_bits r.shape + j)
  last_fixed j last =
      let b = bit_at hard (information_bits r.shape + j) in
      ap (λ s. cond s (not b) b) (sym (suspect_of j (j ∷ []) (one_check r j last)))

-- behind the information bits, the parity bits
pub pairs_fixed : (r : Rows) (k i : ℕ) (hard now new odd : List Bool)
    → k ≡ information_bits r.shape
    → i ≡ k
    → length hard ≡ code_bits r.shape
    → length odd ≡ check_count r.shape
    → ((j : ℕ) → j < check_count r.shape → get_or odd j false ≡ (ones_in (code_of r) hard j % 2 == 1))
    → length new ≡ length now
    → ((j : ℕ) → j + 1 < length odd → bit_at new (k + j) ≡ xor (bit_at now (k + j)) (bit_at odd j && bit_at odd (j + 1)))
    → ((m : ℕ) → m < k → bit_at new m ≡ bit_at now m)
    → ((m : ℕ) → k + length odd ≤ m + 1 → bit_at new m ≡ bit_at now m)
    → AreFixed (fixed_by (code_of r) hard) hard now i
    → AreFixed (fixed_by (code_of r) hard) hard new (code_bits r.shape)
pairs_fixed r k i hard now new odd ek end size count are long flipped front behind so_far = record {
  long = long ∙ so_far.long;
  done = λ m low. elim (cases_lt m k) [
    | inl less ↦ front m less ∙ so_far.done m (omega (arith, less, end))
    | inr more ↦ parity (m - k) m (omega (arith, more)) low
  ];
  left = λ m far. behind m (omega (arith, far, ek, count)) ∙ so_far.left m (omega (arith, far, ek, end));
}
  where
    parity : (j m : ℕ) → k + j ≡ m → m < code_bits r.shape → bit_at new m ≡ fixed_by (code_of r) hard m
    parity j m place low =
        let f = fixed_by (code_of r) hard in
        let o = bit_at odd j && bit_at odd (j + 1) in
        let at : k + j ≡ information_bits r.shape + j = omega (arith, ek) in
        let back : information_bits r.shape + j ≡ m = omega (arith, at, place) in
        let kept : bit_at now (k + j) ≡ bit_at hard (information_bits r.shape + j) = so_far.left (k + j) (omega (arith, end)) ∙ ap (bit_at hard) at in
        elim (cases_lt (j + 1) (check_count r.shape)) [
          | inl pair ↦ ap (bit_at new) (sym place) ∙ flipped j (omega (arith, pair, count)) ∙ ap (λ b. xor b o) kept ∙ pair_fixed r hard odd are j pair ∙ ap f back
          | inr over ↦ (
              let last : j + 1 ≡ check_count r.shape = omega (arith, over, low, place, ek) in
              behind m (omega (arith, last, count, place)) ∙ ap (bit_at now) (sym place) ∙ kept ∙ last_fixed r hard odd are j last ∙ ap f back
              )
        ]
