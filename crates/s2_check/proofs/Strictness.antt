-- Each other codeword costs more than a word whose accepted split is strict.
use Rattle.std.proofs.Common.{◌≡◌, ℕ, zero, suc, ◌+◌, ◌<◌, ◌≤◌, Bool, true, false, cond, List, length, filter, ℤ, pos, neg_ℤ, ◌+ℤ◌, ◌*ℤ◌, ◌≤ℤ◌, inl, inr, refl, sym, ap, ◌∙◌, arith}
use Rattle.std.specs.Int.{int_min}
use Rattle.std.specs.List.{range_with_len}
use Rattle.std.proofs.lemmas.Int.{ints, clamps, by_lt_z}
use Rattle.std.proofs.lemmas.Bool.{cases_lt}
use Rattle.std.proofs.lemmas.List.{same_lists, get_or_default}
use Rattle.s2_matrix.specs.Total.{total, upto}
use Rattle.s2_bits.specs.Bits.{bit_at, xor}
use Rattle.s2_matrix.specs.Code.{Code, members, IsCodeword}
use Rattle.s2_matrix.proofs.Totals.{total-le, total-add, scale_cancel}
use Rattle.s2_check.specs.Cost.{cost}
use Rattle.s2_check.specs.Split.{Split, rest, local_minimum, bound}
use Rattle.s2_check.proofs.Subsets.{least_even_sum-le}
use Rattle.s2_check.proofs.Duality.{cost_is}
use Rattle.s2_check.specs.Strict.{AreStrict, StrictnessLaw}

-- 1 where two words differ
differs : Bool → Bool → ℤ
differs a b = cond (xor a b) (pos 1) (pos 0)

differs_some : (a b : Bool) → pos 0 ≤ℤ differs a b
unfolding differs
differs_some true true = omega (arith, ints)
differs_some true false = omega (arith, ints)
differs_some false true = omega (arith, ints)
differs_some false false = omega (arith, ints)

differs_none : (a b : Bool) → differs a b ≤ℤ pos 0 → b ≡ a
unfolding differs
differs_none true true h = refl
differs_none true false h = absurd (omega (arith, ints))
differs_none false true h = absurd (omega (arith, ints))
differs_none false false h = refl

-- a place where another word differs costs 1 more than the lesser of 0 and its rest
one_more : (a b : Bool) (r : ℤ) → pos 1 ≤ℤ cond a (neg_ℤ r) r → (int_min (pos 0) r +ℤ differs a b) ≤ℤ cond b r (pos 0)
unfolding differs
one_more true true r h = omega (arith, ints, clamps, h)
one_more true false r h = omega (arith, ints, clamps, h)
one_more false true r h = omega (arith, ints, clamps, h)
one_more false false r h = omega (arith, ints, clamps, h)

-- a sum of terms that are not negative is at least each of them
term-le : (f : ℕ → ℤ) → ((i : ℕ) → pos 0 ≤ℤ f i) → (a n i : ℕ) → a ≤ i → i < a + n → f i ≤ℤ total f (range_with_len a n)
term-le f some a zero i low high = absurd (omega arith)
term-le f some a (suc n) i low high =
    elim (cases_lt a i) [
      | inl later ↦ (let others = term-le f some (a + 1) n i (omega arith) (omega arith) in omega (arith, ints, some a, others))
      | inr here ↦ (
          let same : i ≡ a = omega arith in
          let first = ap f same in
          let others = sum_some f some (a + 1) n in
          omega (arith, ints, first, others)
          )
    ]
  where
    sum_some : (f : ℕ → ℤ) → ((i : ℕ) → pos 0 ≤ℤ f i) → (a n : ℕ) → pos 0 ≤ℤ total f (range_with_len a n)
    sum_some f some a zero = omega (arith, ints)
    sum_some f some a (suc n) = omega (arith, ints, some a, sum_some f some (a + 1) n)

-- the bound, and 1 for each place where they differ
bound-le : (code : Code) (soft : List ℤ) (split : Split) (word other : List Bool) → AreStrict code soft split word → IsCodeword code other → (bound code soft split +ℤ total (λ i. differs (bit_at word i) (bit_at other i)) (upto code.bits)) ≤ℤ (pos split.scale *ℤ cost soft other)
bound-le code soft split word other strict codeword =
    let checks = total-le (local_minimum code split) (λ j. total (split.share j) (filter (bit_at other) (members code j))) 0 code.checks (λ j low high. least_even_sum-le (split.share j) (bit_at other) (members code j) (codeword.even j (omega arith))) in
    let one = λ (i : ℕ). differs (bit_at word i) (bit_at other i) in
    let least = λ (i : ℕ). int_min (pos 0) (rest code soft split i) in
    let rests = total-le (λ i. least i +ℤ one i) (λ i. cond (bit_at other i) (rest code soft split i) (pos 0)) 0 code.bits (λ i low high. one_more (bit_at word i) (bit_at other i) (rest code soft split i) (strict i (omega arith))) in
    let added = total-add least one (upto code.bits) in
    omega (arith, ints, checks, rests, added, cost_is code soft split other codeword.long)

-- words that differ nowhere are the same
same_words : (code : Code) (word other : List Bool) → length word ≡ code.bits → length other ≡ code.bits → total (λ i. differs (bit_at word i) (bit_at other i)) (upto code.bits) ≤ℤ pos 0 → other ≡ word
same_words code word other long long' none =
    let one = λ (i : ℕ). differs (bit_at word i) (bit_at other i) in
    same_lists other word (long' ∙ sym long) (λ k d h. (
    let term = term-le one (λ i. differs_some (bit_at word i) (bit_at other i)) 0 code.bits k (omega arith) (omega (arith, long')) in
    get_or_default other k d false h ∙ differs_none (bit_at word k) (bit_at other k) (omega (arith, ints, term, none)) ∙ get_or_default word k false d (omega (arith, long, long'))
    ))

pub strictness_lem : StrictnessLaw
strictness_lem code soft split word accepted strict = record {
  codeword = accepted.codeword;
  alone = λ other codeword different. (
      let a = cost soft word in
      let b = cost soft other in
      let more = bound-le code soft split word other strict codeword in
      let ones = total (λ i. differs (bit_at word i) (bit_at other i)) (upto code.bits) in
      by_lt_z a b (λ less. less) (λ no_more. absurd (
      by_lt_z (pos 0) ones (λ some. (
      let up : (pos split.scale *ℤ a) ≤ℤ (pos split.scale *ℤ b) = omega (arith, ints, more, accepted.tight, some) in
      let le = scale_cancel split.scale a b accepted.scaled up in
      let same : a ≡ b = omega (arith, ints, le, no_more) in
      let scaled = ap (λ z. pos split.scale *ℤ z) same in
      omega (arith, ints, more, accepted.tight, some, scaled)
      )) (λ none. different (same_words code word other accepted.codeword.long codeword.long none))
      ))
      );
}
