-- The parity bits that make a codeword, and the first that does not.
use Rattle.std.proofs.Common.{◌≡◌, ◌≢◌, ℕ, zero, suc, ◌+◌, ◌%◌, ◌<◌, ◌==◌, ◌&&◌, ◌||◌, Bool, true, false, List, length, take, drop, length-drop, refl, sym, ap, ap₂, ◌∙◌, arith, eq-eqb, ne_eqb, eqb-true}
use Rattle.std.specs.Prelude.{Option, MatchOption, Some, None}
use Rattle.std.proofs.lemmas.List.{get_or-take, get_or-drop, length-take-le}
use Rattle.s2_bits.specs.Bits.{xor, bit_at, number}
use Rattle.s2_mode.specs.Shape.{information_bits, check_count, code_bits}
use Rattle.s2_rows.specs.Rows.{Rows}
use Rattle.s2_matrix.specs.Code.{code_of, is_member, ones_in, IsCodeword, IsOddCheck}
use Rattle.s2_matrix.proofs.Joins.{parity_has}
use Rattle.s2_matrix.specs.Sums.{sum_of, information_sum, parity_bit}
use Rattle.s2_matrix.proofs.Sums.{or_apart, sum_of-same, sum_of-xor, sum_of-none, sum_of-one, sum_of-add, odd_part}

-- the bit before
abbrev pub before : (ℕ → Bool) → ℕ → Bool
before w zero = false
before w (suc j) = w j

-- the accumulator's part of check j
sum_edges : (w : ℕ → Bool) (j n : ℕ) → j < n → sum_of (λ i. ((i == j) || (i + 1 == j)) && w i) n ≡ xor (w j) (before w j)
sum_edges w j n low =
    sum_of-same (λ i. ((i == j) || (i + 1 == j)) && w i) (λ i. xor ((i == j) && w i) ((i + 1 == j) && w i)) n (λ i h. or_apart (i == j) (i + 1 == j) (w i) (λ e. ne_eqb i j (λ same. (let next = eqb-true (i + 1) j e in omega arith))))
    ∙ sum_of-xor (λ i. (i == j) && w i) (λ i. (i + 1 == j) && w i) n
    ∙ ap₂ xor (own j) (last j low)
  where
    own : (j' : ℕ) → sum_of (λ i. (i == j) && w i) n ≡ w j
    own j' =
        sum_of-one (λ i. (i == j) && w i) j n low (λ i h other. ap (λ b. b && w i) (ne_eqb i j other))
        ∙ ap (λ b. b && w j) (eq-eqb j j refl)

    last : (j' : ℕ) → j' < n → sum_of (λ i. (i + 1 == j') && w i) n ≡ before w j'
    last zero h = sum_of-none (λ i. (i + 1 == zero) && w i) n (λ i less. ap (λ b. b && w i) (ne_eqb (i + 1) zero (λ e. omega arith)))
    last (suc j') h =
        sum_of-one (λ i. (i + 1 == suc j') && w i) j' n (omega arith) (λ i less other. ap (λ b. b && w i) (ne_eqb (i + 1) (suc j') (λ e. other (omega arith))))
        ∙ ap (λ b. b && w j') (eq-eqb (j' + 1) (suc j') (omega arith))

-- whether check j has an odd number of ones
pub check_sum : (r : Rows) (word : List Bool) (j : ℕ) → j < check_count r.shape → ones_in (code_of r) word j % 2 ≡ number (xor (sum_of (λ b. is_member r j b && bit_at word b) (information_bits r.shape)) (xor (bit_at word (information_bits r.shape + j)) (before (λ i. bit_at word (information_bits r.shape + i)) j)))
check_sum r word j low =
    let k = information_bits r.shape in
    let n = check_count r.shape in
    let all : code_bits r.shape ≡ k + n = omega arith in
    let f = λ (b : ℕ). is_member r j b && bit_at word b in
    let w = λ (i : ℕ). bit_at word (k + i) in
    odd_part (bit_at word) (is_member r j) (code_bits r.shape)
    ∙ ap number (ap (sum_of f) all ∙ sum_of-add f k n ∙ ap (xor (sum_of f k)) (sum_of-same (λ i. f (k + i)) (λ i. ((i == j) || (i + 1 == j)) && w i) n (λ i h. ap (λ b. b && w i) (parity_has r i j)) ∙ sum_edges w j n low))

-- the same sum over the information bits alone
pub begun : (r : Rows) (info word : List Bool) (j : ℕ) → length info ≡ information_bits r.shape → ((i : ℕ) → i < length info → bit_at word i ≡ bit_at info i) → sum_of (λ b. is_member r j b && bit_at word b) (information_bits r.shape) ≡ information_sum (code_of r) info j
begun r info word j long begins =
    ap (sum_of (λ b. is_member r j b && bit_at word b)) (sym long)
    ∙ sum_of-same (λ b. is_member r j b && bit_at word b) (λ b. is_member r j b && bit_at info b) (length info) (λ b h. ap (λ x. is_member r j b && x) (begins b h))

number_none : (b : Bool) → number b ≡ 0 → b ≡ false
number_none true e = absurd (omega arith)
number_none false e = refl

solved : (a p b : Bool) → xor a (xor p b) ≡ false → p ≡ xor b a
solved true true true e = cc e
solved true true false e = refl
solved true false true e = refl
solved true false false e = cc e
solved false true true e = cc
solved false true false e = cc e
solved false false true e = cc e
solved false false false e = refl

cancels : (a s : Bool) → xor a (xor (xor s a) s) ≡ false
cancels true true = refl
cancels true false = refl
cancels false true = refl
cancels false false = refl

unlike : (a p b : Bool) → p ≢ xor b a → xor a (xor p b) ≡ true
unlike true true true other = refl
unlike true true false other = absurd (other refl)
unlike true false true other = absurd (other refl)
unlike true false false other = refl
unlike false true true other = absurd (other refl)
unlike false true false other = refl
unlike false false true other = refl
unlike false false false other = absurd (other refl)

module _ (r : Rows) (info word : List Bool) (long : length info ≡ information_bits r.shape) (begins : (i : ℕ) → i < length info → bit_at word i ≡ bit_at info i) where
  so_far : (j : ℕ) → ((i : ℕ) → i < j → bit_at word (information_bits r.shape + i) ≡ parity_bit (code_of r) info i) → before (λ i. bit_at word (information_bits r.shape + i)) j ≡ sum_of (information_sum (code_of r) info) j
  so_far zero are = refl
  so_far (suc i) are = are i (omega arith)

  -- whether check j is odd, where the parity bits before are right
  sum_is : (j : ℕ) → j < check_count r.shape → ((i : ℕ) → i < j → bit_at word (information_bits r.shape + i) ≡ parity_bit (code_of r) info i) → ones_in (code_of r) word j % 2 ≡ number (xor (information_sum (code_of r) info j) (xor (bit_at word (information_bits r.shape + j)) (sum_of (information_sum (code_of r) info) j)))
  sum_is j low are =
      check_sum r word j low
      ∙ ap number (ap₂ xor (begun r info word j long begins) (ap (xor (bit_at word (information_bits r.shape + j))) (so_far j are)))

  -- a check is even where its parity bit and those before are right
  pub even_at : (j : ℕ) → j < check_count r.shape → ((i : ℕ) → i < j + 1 → bit_at word (information_bits r.shape + i) ≡ parity_bit (code_of r) info i) → ones_in (code_of r) word j % 2 ≡ 0
  even_at j low are =
      let a = information_sum (code_of r) info j in
      let s = sum_of (information_sum (code_of r) info) j in
      sum_is j low (λ i h. are i (omega arith))
      ∙ ap number (ap (λ p. xor a (xor p s)) (are j (omega arith)) ∙ cancels a s)

  -- and odd where its parity bit is the first that is not
  pub odd_at : (j : ℕ) → j < check_count r.shape → ((i : ℕ) → i < j → bit_at word (information_bits r.shape + i) ≡ parity_bit (code_of r) info i) → bit_at word (information_bits r.shape + j) ≢ parity_bit (code_of r) info j → ones_in (code_of r) word j % 2 ≡ 1
  odd_at j low are other =
      sum_is j low are
      ∙ ap number (unlike (information_sum (code_of r) info j) (bit_at word (information_bits r.shape + j)) (sum_of (information_sum (code_of r) info) j) other)

  pub odd_check_is : (j : ℕ) → j < check_count r.shape → ((i : ℕ) → i < j → bit_at word (information_bits r.shape + i) ≡ parity_bit (code_of r) info i) → bit_at word (information_bits r.shape + j) ≢ parity_bit (code_of r) info j → IsOddCheck (code_of r) word j
  odd_check_is j low are other = record {
    within = low;
    odd = odd_at j low are other;
    first = λ i h. even_at i (omega arith) (λ i' h'. are i' (omega arith));
  }

  -- a word with these parity bits is a codeword
  pub codeword_is : length word ≡ code_bits r.shape → ((j : ℕ) → j < check_count r.shape → bit_at word (information_bits r.shape + j) ≡ parity_bit (code_of r) info j) → IsCodeword (code_of r) word
  codeword_is size are = record {
    long = size;
    even = λ j low. even_at j low (λ i h. are i (omega arith));
  }

  -- each parity bit of a codeword adds its check's sum to the parity bit before
  parity_step : IsCodeword (code_of r) word → (j : ℕ) → j < check_count r.shape → before (λ i. bit_at word (information_bits r.shape + i)) j ≡ sum_of (information_sum (code_of r) info) j → bit_at word (information_bits r.shape + j) ≡ parity_bit (code_of r) info j
  parity_step is j low before_is =
      let k = information_bits r.shape in
      let w = λ (i : ℕ). bit_at word (k + i) in
      let even = is.even j low in
      let none = number_none (xor (sum_of (λ b. is_member r j b && bit_at word b) k) (xor (w j) (before w j))) (sym (check_sum r word j low) ∙ even) in
      let sums = begun r info word j long begins in
      let one = solved (information_sum (code_of r) info j) (w j) (before w j) (ap (λ s. xor s (xor (w j) (before w j))) (sym sums) ∙ none) in
      one ∙ ap (λ b. xor b (information_sum (code_of r) info j)) before_is

  -- each parity bit of a codeword is the sum of the checks so far
  pub parities_are : IsCodeword (code_of r) word → (j : ℕ) → j < check_count r.shape → bit_at word (information_bits r.shape + j) ≡ parity_bit (code_of r) info j
  parities_are is zero low = parity_step is zero low refl
  parities_are is (suc j) low = parity_step is (suc j) low (parities_are is j (omega arith))

-- the parity test: the word's parity bits beside those that its information bits make
pub tested : (r : Rows) (k : ℕ) (word info parities made : List Bool) (found : Option ℕ) → k ≡ information_bits r.shape → length word ≡ code_bits r.shape → info ≡ take k word → parities ≡ drop k word → ((j : ℕ) → j < check_count r.shape → bit_at made j ≡ parity_bit (code_of r) info j) → MatchOption found ((j : ℕ) → j < length parities → bit_at parities j ≡ bit_at made j) (λ j. (j < length parities) × (bit_at parities j ≢ bit_at made j) × ((i : ℕ) → i < j → bit_at parities i ≡ bit_at made i)) → MatchOption found (IsCodeword (code_of r) word) (IsOddCheck (code_of r) word)
tested r k word info parities made found ek size ei ep are =
    elim found as (λ o. MatchOption o ((j : ℕ) → j < length parities → bit_at parities j ≡ bit_at made j) (λ j. (j < length parities) × (bit_at parities j ≢ bit_at made j) × ((i : ℕ) → i < j → bit_at parities i ≡ bit_at made i)) → MatchOption o (IsCodeword (code_of r) word) (IsOddCheck (code_of r) word)) [
      | None ↦ (λ same. codeword_is r info word long begins size (λ j h. at j ∙ same j (omega (arith, count)) ∙ are j h))
      | Some j ↦ (λ odd. odd_check_is r info word long begins j (omega (arith, count, odd.0)) (λ i h. at i ∙ odd.2 i h ∙ are i (omega (arith, count, odd.0))) (λ e. odd.1 (sym (at j) ∙ e ∙ sym (are j (omega (arith, count, odd.0))))))
    ]
  where
    count : length parities ≡ check_count r.shape
    count = ap length ep ∙ length-drop k word ∙ omega (arith, ek, size)

    long : length info ≡ information_bits r.shape
    long = ap length ei ∙ length-take-le k word (omega (arith, ek, size)) ∙ ek

    begins : (i : ℕ) → i < length info → bit_at word i ≡ bit_at info i
    begins i h = sym (ap (λ l. bit_at l i) ei ∙ get_or-take k word i false (omega (arith, h, long, ek)))

    at : (j : ℕ) → bit_at word (information_bits r.shape + j) ≡ bit_at parities j
    at j = ap (λ n. bit_at word (n + j)) (sym ek) ∙ sym (ap (λ l. bit_at l j) ep ∙ get_or-drop k word j false)
