-- The line of soft values is read as these values.
use Rattle.std.proofs.Common.{◌≡◌, ℕ, suc, ◌<◌, ◌≤◌, ◌^◌, ℤ, pos, negsuc, Bool, List, [], ◌∷◌, ◌++◌, inr, refl, sym, ap, ◌∙◌, subst, arith, append_assoc, append-nil, decimal}
use Rattle.std.specs.Fmt.{signed_decimal}
use Rattle.std.specs.List.{All}
use Rattle.std.proofs.lemmas.Int.{ints}
use Rattle.s2_mode.specs.Limits.{max_soft}
use Rattle.s2_certfile.specs.File.{IsSoft}
use Rattle.s2_rows.specs.Layouts.{EndsToken}
use Rattle.s2_rows.specs.Text.{is_line_feed, pieces_of, lines_of}
use Rattle.s2_rows.specs.ValueTexts.{IsWritten, plain, minus, IsLineWith, AreLinesWith}
use Rattle.s2_rows.proofs.Decimals.{decimal_says, Lacks, no_line_feed}
use Rattle.s2_rows.proofs.ValueTextLemmas.{value_text_lem}
use Rattle.s2_rows.proofs.WrittenRows.{piece_is_cut}
use Rattle.s2_records.specs.Laws.{ValuesLaw}
use Rattle.s2_records.specs.Values.{values_line}

-- the values after the first, each after a space
abbrev more : List ℤ → List ℕ
more [] = []
more (v ∷ soft) = 32 ∷ (signed_decimal v ++ more soft)

line_is : (v : ℤ) (soft : List ℤ) → values_line (v ∷ soft) ≡ (signed_decimal v ++ more soft) ++ 10 ∷ []
unfolding values_line
line_is v [] = append-nil (signed_decimal v ++ 10 ∷ []) ∙ ap (λ l. l ++ 10 ∷ []) (sym (append-nil (signed_decimal v)))
line_is v (w ∷ soft) =
    append_assoc (signed_decimal v) (32 ∷ []) (values_line (w ∷ soft)) ∙ ap (λ l. signed_decimal v ++ 32 ∷ l) (line_is w soft) ∙ sym (append_assoc (signed_decimal v) (more (w ∷ soft)) (10 ∷ []))

low_size : (n : ℕ) → IsSoft (negsuc n) → suc n ≤ max_soft
low_size n is = omega (arith, ints, is.low)

high_size : (n : ℕ) → IsSoft (pos n) → n ≤ max_soft
high_size n is = omega (arith, ints, is.high)

written : (v : ℤ) → IsSoft v → IsWritten (signed_decimal v) v
written (pos n) is = plain 0 n (high_size n is) refl refl
written (negsuc n) is = minus 0 (suc n) (low_size n is) refl refl

ends : (soft : List ℤ) → EndsToken (more soft)
ends [] = tt
ends (v ∷ soft) = refl

first_of : (v : ℤ) (soft : List ℤ) → All IsSoft (v ∷ soft) → IsSoft v
first_of v soft each = each 0 (pos 0) (omega arith)

later_of : (v : ℤ) (soft : List ℤ) → All IsSoft (v ∷ soft) → All IsSoft soft
later_of v soft each = λ i d low. each (suc i) d (omega arith)

are_in_line : (soft : List ℤ) → All IsSoft soft → IsLineWith (more soft) soft
are_in_line [] each = tt
are_in_line (v ∷ soft) each =
    (32 ∷ [], signed_decimal v, more soft, refl, (refl, tt), written v (first_of v soft each), ends soft, are_in_line soft (later_of v soft each))

lacks_append : (p : ℕ → Bool) (xs ys : List ℕ) → Lacks p xs → Lacks p ys → Lacks p (xs ++ ys)
lacks_append p [] ys a b = b
lacks_append p (x ∷ xs) ys a b = (a.0, lacks_append p xs ys a.1 b)

value_in_line : (v : ℤ) → IsSoft v → Lacks is_line_feed (signed_decimal v)
value_in_line (pos n) is =
    let few : n < 2 ^ 64 = omega (arith, high_size n is) in
    no_line_feed (decimal n) (decimal_says n few).digits
value_in_line (negsuc n) is =
    let few : suc n < 2 ^ 64 = omega (arith, low_size n is) in
    (refl, no_line_feed (decimal (suc n)) (decimal_says (suc n) few).digits)

more_in_line : (soft : List ℤ) → All IsSoft soft → Lacks is_line_feed (more soft)
more_in_line [] each = tt
more_in_line (v ∷ soft) each =
    (refl, lacks_append is_line_feed (signed_decimal v) (more soft) (value_in_line v (first_of v soft each)) (more_in_line soft (later_of v soft each)))

are_lines : (soft : List ℤ) → All IsSoft soft → AreLinesWith (lines_of (values_line soft)) soft
unfolding values_line pieces_of
are_lines [] each = refl
are_lines (v ∷ soft) each =
    let here = first_of v soft each in
    let later = later_of v soft each in
    let body : List ℕ = signed_decimal v ++ more soft in
    let lacks : Lacks is_line_feed body = lacks_append is_line_feed (signed_decimal v) (more soft) (value_in_line v here) (more_in_line soft later) in
    let lines : lines_of (values_line (v ∷ soft)) ≡ body ∷ [] = ap lines_of (line_is v soft) ∙ piece_is_cut is_line_feed body 10 [] lacks refl in
    let line : IsLineWith body (v ∷ soft) = ([], signed_decimal v, more soft, refl, tt, written v here, ends soft, are_in_line soft later) in
    subst (λ ls. AreLinesWith ls (v ∷ soft)) (sym lines) (inr (v ∷ soft, [], sym (append-nil (v ∷ soft)), line, refl))

pub values_lem : ValuesLaw
values_lem soft each = value_text_lem soft (values_line soft) (are_lines soft each)
