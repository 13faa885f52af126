-- What is decided where the values are scattered about a codeword.
use Rattle.std.proofs.Common.{◌≡◌, ◌≢◌, IsTrue, ℕ, ◌<◌, Bool, true, false, not, cond, List, get_or, ℤ, pos, int_lt, None, inl, inr, refl, sym, ap, ◌∙◌, arith}
use Rattle.std.proofs.lemmas.Bool.{cases_Bool}
use Rattle.std.proofs.lemmas.List.{ext_get_or, length-map}
use Rattle.s2_rows.specs.Rows.{Rows}
use Rattle.s2_bits.specs.Bits.{bit_at}
use Rattle.s2_matrix.specs.Code.{Code, code_of, members, checks_of, IsCodeword}
use Rattle.s2_matrix.proofs.Members.{place_in_members}
use Rattle.s2_check.specs.Cost.{value_at}
use Rattle.s2_check.specs.Hard.{hard_decision, differs}
use Rattle.s2_check.specs.Views.{unsplit_view}
use Rattle.s2_split.specs.Scattered.{IsScattered}
use Rattle.s2_check.proofs.BoundListed.{check_at}
use Rattle.s2_split.proofs.RepairLemmas.{odd_is, hard_at, count_some, repair_lem}
use Rattle.s2_check.specs.Verdicts.{is_certified}
use Rattle.s2_judge.specs.Deciding.{Decided, is_strict, satisfies, repair_view, view_for, ScatteredLaw}
use Rattle.s2_tuning.specs.Tuning.{Tuning}
use Rattle.s2_judge.proofs.Certificates.{scattered_found}
use Rattle.s2_judge.proofs.Decisions.{satisfied_codeword, codeword_satisfied, certified_by, repair_made, by_ways}

-- where the hard decision is a codeword, no place differs from the word that the values are scattered about
none_differs : (code : Code) (soft : List ℤ) (word : List Bool) (i : ℕ) → IsScattered code soft word → IsCodeword code (hard_decision soft) → i < code.bits → differs soft word i ≡ false
none_differs code soft word i s codeword low =
    elim (cases_Bool (differs soft word i)) [
      | inl wrong ↦ (
          let two = s.held i low wrong in
          let at = check_at code i 0 0 (omega arith) in
          let j = get_or (checks_of code i) 0 0 in
          let some = count_some (differs soft word) i wrong (members code j) (place_in_members code i j low at.1) in
          absurd (omega (arith, odd_is code soft word j s at.0, s.one_each j at.0, codeword.even j at.0, some))
          )
      | inr right ↦ right
    ]

same_bit : (h b : Bool) → cond h (not b) b ≡ false → h ≡ b
same_bit true true e = refl
same_bit true false e = cc
same_bit false true e = cc
same_bit false false e = refl

hard_scattered : (code : Code) (soft : List ℤ) (word : List Bool) → IsScattered code soft word → IsCodeword code (hard_decision soft) → hard_decision soft ≡ word
hard_scattered code soft word s codeword =
    ext_get_or false (hard_decision soft) word (codeword.long ∙ sym s.codeword.long) (λ i low. (
    let within : i < code.bits = omega (arith, codeword.long) in
    hard_at soft i (omega (arith, s.long)) ∙ same_bit (int_lt (value_at soft i) (pos 0)) (bit_at word i) (none_differs code soft word i s codeword within)
    ))

-- the repair is that word, and has a certificate
repair_shown : (r : Rows) (tuning : Tuning) (soft : List ℤ) (sent : List Bool) → IsScattered (code_of r) soft sent → repair_view r tuning.passes soft ≢ None
repair_shown r tuning soft sent s none =
    let code = code_of r in
    let is = repair_lem code soft sent s in
    let even = ap (satisfies code) is ∙ codeword_satisfied code sent s.codeword in
    scattered_found r tuning.passes soft sent s (ap (view_for r tuning.passes soft) (sym is) ∙ sym (repair_made r tuning soft even) ∙ none)

pub scattered_lem : ScatteredLaw
scattered_lem r tuning soft sent s =
    let code = code_of r in
    let P : Decided → Type 0 = λ d. IsTrue (is_certified d.verdict) × (d.bits ≡ sent) in
    by_ways r tuning soft P (λ even. (certified_by (is_strict r (unsplit_view r soft (hard_decision soft))), hard_scattered code soft sent s (satisfied_codeword code (hard_decision soft) (length-map soft _ ∙ s.long) even))) (λ view even is. (certified_by (is_strict r view), repair_lem code soft sent s)) (λ bits none is. absurd (repair_shown r tuning soft sent s none)) (λ none is. absurd (repair_shown r tuning soft sent s none))
