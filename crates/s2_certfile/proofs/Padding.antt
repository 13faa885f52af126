-- The test on padding bits.
use Rattle.std.proofs.Common.{◌≡◌, ℕ, ◌+◌, ◌-◌, ◌*◌, ◌≤◌, ◌<◌, true, false, not, List, length, inl, inr, sym, ap, ◌∙◌, arith}
use Rattle.std.specs.List.{range_with_len}
use Rattle.std.proofs.lemmas.Bool.{cases_Bool}
use Rattle.std.proofs.lemmas.List.FromFn.{length-range_with_len, get_or-range_with_len}
use Rattle.std.proofs.lemmas.List.Sums.{AllPass-from_list_all, list_all-from_AllPass}
use Rattle.s2_bits.specs.Bits.{bit_of_bytes}
use Rattle.s2_certfile.specs.Field.{is_padded}

pub padded_yes : (bytes : List ℕ) (n : ℕ) → ((k : ℕ) → n ≤ k → k < 8 * length bytes → bit_of_bytes bytes k ≡ false) → is_padded bytes n ≡ true
padded_yes bytes n zeros =
    let end = 8 * length bytes in
    list_all-from_AllPass (λ i. not (bit_of_bytes bytes i)) (range_with_len n (end - n)) (λ k d h. (
    let short : k < end - n = omega (arith, length-range_with_len n (end - n)) in
    ap (λ i. not (bit_of_bytes bytes i)) (get_or-range_with_len n (end - n) k d short) ∙ ap not (zeros (n + k) (omega arith) (omega arith))
    ))

pub padded_no : (bytes : List ℕ) (n i : ℕ) → n ≤ i → i < 8 * length bytes → bit_of_bytes bytes i ≡ true → is_padded bytes n ≡ false
padded_no bytes n i low high one =
    let end = 8 * length bytes in
    elim (cases_Bool (is_padded bytes n)) [
      | inl all ↦ (
          let short : i - n < end - n = omega arith in
          let long : i - n < length (range_with_len n (end - n)) = omega (arith, length-range_with_len n (end - n)) in
          let here : n + (i - n) ≡ i = omega arith in
          let zero = AllPass-from_list_all (λ k. not (bit_of_bytes bytes k)) (range_with_len n (end - n)) all (i - n) 0 long in
          let at_i = ap (λ k. not (bit_of_bytes bytes k)) (get_or-range_with_len n (end - n) (i - n) 0 short ∙ here) ∙ ap not one in
          let clash = sym at_i ∙ zero in
          cc clash
          )
      | inr none ↦ none
    ]
