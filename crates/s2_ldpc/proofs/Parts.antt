-- A codeword of its information bits and its parity bits.
use Rattle.std.proofs.Common.{◌≡◌, ℕ, ◌+◌, ◌-◌, ◌<◌, ◌≤◌, Bool, false, List, ◌++◌, length, inl, inr, sym, ap, ◌∙◌, arith, length-append}
use Rattle.std.proofs.lemmas.Bool.{cases_lt}
use Rattle.std.proofs.lemmas.List.{same_lists, get_or_default, get_or_append_left, get_or-append_right}
use Rattle.s2_bits.specs.Bits.{bit_at}
use Rattle.s2_mode.specs.Shape.{information_bits, check_count, code_bits}
use Rattle.s2_rows.specs.Rows.{Rows}
use Rattle.s2_matrix.specs.Code.{code_of}
use Rattle.s2_matrix.specs.Sums.{parity_bit}
use Rattle.s2_matrix.proofs.Parities.{codeword_is, parities_are}
use Rattle.s2_ldpc.specs.Encoding.{IsCodewordOf, UniqueLaw}

-- the information bits, and the parity bits behind them
pub written : (r : Rows) (info front parities : List Bool) → length info ≡ information_bits r.shape → front ≡ info → length parities ≡ check_count r.shape → ((j : ℕ) → j < check_count r.shape → bit_at parities j ≡ parity_bit (code_of r) info j) → IsCodewordOf (code_of r) info (front ++ parities)
written r info front parities long is size are =
    let k = information_bits r.shape in
    let same = ap length is in
    let begins = λ (i : ℕ) (h : i < length info). (let low : i < length front = omega arith in get_or_append_left front parities false i low ∙ ap (λ l. bit_at l i) is) in
    record {
      in_code = codeword_is r info (front ++ parities) long begins (omega (arith, length-append front parities)) (λ j h. (
          let past : k ≤ k + j = omega arith in
          let at : k + j - k ≡ j = omega arith in
          get_or-append_right front parities k (k + j) false (same ∙ long) past ∙ ap (bit_at parities) at ∙ are j h
          ));
      begins = begins;
    }

pub unique_lem : UniqueLaw
unique_lem r info a b long one two =
    let k = information_bits r.shape in
    let n = check_count r.shape in
    let all : code_bits r.shape ≡ k + n = omega arith in
    same_lists a b (one.in_code.long ∙ sym two.in_code.long) (λ i d h. (
    let low : i < k + n = omega (arith, one.in_code.long) in
    let size : length b ≡ length a = two.in_code.long ∙ sym one.in_code.long in
    get_or_default a i d false h ∙ same i low ∙ sym (get_or_default b i d false (omega arith))
    ))
  where
    same : (i : ℕ) → i < information_bits r.shape + check_count r.shape → bit_at a i ≡ bit_at b i
    same i low =
        let k = information_bits r.shape in
        elim (cases_lt i k) [
          | inl less ↦ one.begins i (omega arith) ∙ sym (two.begins i (omega arith))
          | inr ge ↦ (
              let at : i ≡ k + (i - k) = omega arith in
              let short : i - k < check_count r.shape = omega arith in
              ap (bit_at a) at ∙ parities_are r info a long one.begins one.in_code (i - k) short ∙ sym (ap (bit_at b) at ∙ parities_are r info b long two.begins two.in_code (i - k) short)
              )
        ]
