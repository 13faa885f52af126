-- The test of every rest that a certificate leaves.
use Rattle.std.proofs.Common.{◌≡◌, ◌↔◌, IsTrue, ℕ, ◌<◌, Bool, true, false, length, get_or, ℤ, pos, int_lt, ◌≤ℤ◌, refl, ap, subst, ◌∙◌, arith}
use Rattle.std.proofs.lemmas.Bool.{both_ways, false_from_ne_true}
use Rattle.std.proofs.lemmas.Int.{ints}
use Rattle.std.proofs.lemmas.List.FromFn.{length-range_with_len, get_or-range_with_len}
use Rattle.std.proofs.lemmas.List.Sums.{AllPass-from_list_all, list_all-from_AllPass}
use Rattle.s2_rows.specs.Rows.{Rows}
use Rattle.s2_matrix.specs.Total.{upto}
use Rattle.s2_matrix.specs.Code.{code_of}
use Rattle.s2_check.specs.Split.{rest}
use Rattle.s2_check.specs.Moves.{in_favour}
use Rattle.s2_check.specs.Views.{View}
use Rattle.s2_check.specs.Checking.{split_in}
use Rattle.s2_check.specs.Strict.{AreStrict}
use Rattle.s2_settle.specs.Settled.{is_strict}

above : (z : ℤ) → pos 1 ≤ℤ z → int_lt (pos 0) z ≡ true
above z h = grind (arith, ints)

at_one : (z : ℤ) → int_lt (pos 0) z ≡ true → pos 1 ≤ℤ z
at_one z h = grind (arith, ints)

module _ (r : Rows) (v : View) where
  abbrev rest_of : ℕ → ℤ
  rest_of i = in_favour v.bits i (rest (code_of r) v.soft (split_in r v) i)

  pub strict_test : AreStrict (code_of r) v.soft (split_in r v) v.bits → is_strict r v ≡ true
  unfolding is_strict
  strict_test strict =
      let n = (code_of r).bits in
      let test = λ (i : ℕ). int_lt (pos 0) (rest_of i) in
      list_all-from_AllPass test (upto n) (λ k d within. (
      let low : k < n = omega (arith, length-range_with_len 0 n) in
      let place : get_or (upto n) k d ≡ k = omega (arith, get_or-range_with_len 0 n k d low) in
      ap test place ∙ above (rest_of k) (strict k low)
      ))

  pub test_strict : is_strict r v ≡ true → AreStrict (code_of r) v.soft (split_in r v) v.bits
  unfolding is_strict
  test_strict h i low =
      let n = (code_of r).bits in
      let test = λ (i : ℕ). int_lt (pos 0) (rest_of i) in
      let short : i < length (upto n) = omega (arith, length-range_with_len 0 n) in
      let place : get_or (upto n) i 0 ≡ i = omega (arith, get_or-range_with_len 0 n i 0 low) in
      at_one (rest_of i) (subst (λ k. test k ≡ true) place (AllPass-from_list_all test (upto n) h i 0 short))

  pub strict_is : (b : Bool) → (IsTrue b ↔ AreStrict (code_of r) v.soft (split_in r v) v.bits) → is_strict r v ≡ b
  strict_is true h = strict_test (h.0 refl)
  strict_is false h = false_from_ne_true (is_strict r v) (λ e. both_ways false refl (h.1 (test_strict e)))
