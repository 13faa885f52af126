-- A text of values is read as them, however it is laid out.
use Rattle.std.proofs.Common.{◌≡◌, ℕ, suc, ◌+◌, ◌-◌, ◌<◌, ◌≤◌, ◌⊎◌, int_lt, not, true, false, List, [], ◌∷◌, ◌++◌, length, ℤ, pos, neg_ℤ, Some, Ok, inl, inr, refl, sym, ap, ◌∙◌, subst, arith}
use Rattle.std.proofs.lemmas.Bool.{cond-true, cond-false, cases_Bool, and_from, ne_eqb}
use Rattle.std.proofs.lemmas.Int.{ints}
use Rattle.std.specs.Option.{option_map}
use Rattle.s2_mode.specs.Limits.{max_soft}
use Rattle.s2_rows.specs.Layouts.{digits_of}
use Rattle.s2_rows.specs.Readings.{ok_cons}
use Rattle.s2_rows.specs.Text.{is_space, tokens_of, lines_of, is_ignored}
use Rattle.s2_rows.specs.Values.{signed, number_of, is_value, in_range, tokens_at, tokens_from, value_of, values_of}
use Rattle.s2_rows.specs.ValueTexts.{IsWritten, plain, minus, IsLineWith, AreLinesWith, ValueTextLaw}
use Rattle.s2_rows.proofs.Decimals.{Says, natural_of_says, zeros_say, Lacks, no_space}
use Rattle.s2_rows.proofs.LineTokens.{tokens_after_gap, no_tokens_alone, silent_passed, token_then}
use Rattle.s2_rows.proofs.Tokens.{numbered, one_more, not_passed_over}

-- ---- what a token says

in_limits : (v : ℤ) (n : ℕ) → n ≤ max_soft → (v ≡ pos n) ⊎ (v ≡ neg_ℤ (pos n)) → is_value v ≡ true
in_limits v n few is =
    let low : int_lt v (neg_ℤ (pos max_soft)) ≡ false = elim (cases_Bool (int_lt v (neg_ℤ (pos max_soft)))) [ inl less ↦ absurd (omega (arith, ints)) | inr ok ↦ ok ] in
    let high : int_lt (pos max_soft) v ≡ false = elim (cases_Bool (int_lt (pos max_soft) v)) [ inl less ↦ absurd (omega (arith, ints)) | inr ok ↦ ok ] in
    and_from _ _ (ap not low) (ap not high)

-- a token that begins no comment, without separators, of which this is the value in every line
record Speaks (token : List ℕ) (v : ℤ) : Type 0 where
  some : 0 < length token
  apart : Lacks is_space token
  spoken : (tokens : List (List ℕ)) → is_ignored (token ∷ tokens) ≡ false
  value : (line : ℕ) → value_of line token ≡ Ok v

valued : (line : ℕ) (token : List ℕ) (v : ℤ) → number_of token ≡ Some v → is_value v ≡ true → value_of line token ≡ Ok v
valued line token v number range = ap (in_range line) number ∙ cond-true _ _ _ range

plain_speaks : (ds : List ℕ) (n : ℕ) → n ≤ max_soft → Says n ds → Speaks ds (pos n)
plain_speaks [] n few s = absurd (omega (arith, s.some))
plain_speaks (d ∷ ds) n few s = record {
  some = s.some;
  apart = no_space (d ∷ ds) s.digits;
  spoken = λ tokens. ne_eqb d 35 (λ e. omega (arith, s.digits.0));
  value = λ line. valued line (d ∷ ds) (pos n) (cond-false _ _ _ (ne_eqb d 45 (λ e. omega (arith, s.digits.0))) ∙ ap (option_map (signed false)) (natural_of_says (d ∷ ds) n s)) (in_limits (pos n) n few (inl refl));
}

minus_speaks : (ds : List ℕ) (n : ℕ) → n ≤ max_soft → Says n ds → Speaks (45 ∷ ds) (neg_ℤ (pos n))
minus_speaks ds n few s = record {
  some = omega arith;
  apart = (refl, no_space ds s.digits);
  spoken = λ tokens. refl;
  value = λ line. valued line (45 ∷ ds) (neg_ℤ (pos n)) (ap (option_map (signed true)) (natural_of_says ds n s)) (in_limits (neg_ℤ (pos n)) n few (inr refl));
}

speaks : (token : List ℕ) (v : ℤ) → IsWritten token v → Speaks token v
speaks token v (plain zeros n few is same) =
    let P : List ℕ → Type 0 = λ w. Speaks w v in
    let Q : ℤ → Type 0 = Speaks (digits_of zeros n) in
    subst P (sym is) (subst Q (sym same) (plain_speaks (digits_of zeros n) n few (zeros_say zeros n (omega arith))))
speaks token v (minus zeros n few is same) =
    let P : List ℕ → Type 0 = λ w. Speaks w v in
    let Q : ℤ → Type 0 = Speaks (45 ∷ digits_of zeros n) in
    subst P (sym is) (subst Q (sym same) (minus_speaks (digits_of zeros n) n few (zeros_say zeros n (omega arith))))

-- ---- the values of a line

value_then : (line : List ℕ) (v : ℤ) (values : List ℤ) → (is : IsLineWith line (v ∷ values)) → tokens_of line ≡ is.1 ∷ tokens_of is.2
value_then line v values (gap, token, rest, is, are, written, ends, more) =
    let s = speaks token v written in
    ap tokens_of is ∙ tokens_after_gap gap (token ++ rest) are ∙ token_then token rest s.some s.apart ends

-- a line's values, and behind them those that are read of further tokens
line_adds : (here later : List ℤ) (n : ℕ) (line : List ℕ) (more : List (ℕ × List ℕ)) → IsLineWith line here → values_of (length later) more ≡ Ok later
    → values_of (length (here ++ later)) (numbered n (tokens_of line) ++ more) ≡ Ok (here ++ later)
line_adds [] later n line more is behind = ap (λ tokens. values_of (length later) (numbered n tokens ++ more)) (no_tokens_alone line is) ∙ behind
line_adds (v ∷ here) later n line more is behind =
    let count : ℕ = length (here ++ later) in
    let tokens : List (ℕ × List ℕ) = numbered n (tokens_of is.2) ++ more in
    let left : suc count - 1 ≡ count = omega arith in
    ap (λ tokens. values_of (suc count) (numbered n tokens ++ more)) (value_then line v here is)
    ∙ one_more (suc count) (n, is.1) tokens (omega arith)
    ∙ ap (λ r. ok_cons r (values_of (suc count - 1) tokens)) ((speaks is.1 v is.5).value n)
    ∙ ap (λ k. ok_cons (Ok v) (values_of k tokens)) left
    ∙ ap (ok_cons (Ok v)) (line_adds here later n is.2 more is.7 behind)

adds_nothing : (n : ℕ) (line : List ℕ) (more : List (ℕ × List ℕ)) → is_ignored (tokens_of line) ≡ true → tokens_at n (tokens_of line) ++ more ≡ more
adds_nothing n line more passed = ap (λ tokens. tokens ++ more) (cond-true _ _ _ passed)

line_is_read : (here later : List ℤ) (n : ℕ) (line : List ℕ) (more : List (ℕ × List ℕ)) → IsLineWith line here → values_of (length later) more ≡ Ok later
    → values_of (length (here ++ later)) (tokens_at n (tokens_of line) ++ more) ≡ Ok (here ++ later)
line_is_read [] later n line more is behind = ap (values_of (length later)) (adds_nothing n line more (ap is_ignored (no_tokens_alone line is))) ∙ behind
line_is_read (v ∷ here) later n line more is behind =
    let spoken : is_ignored (tokens_of line) ≡ false = ap is_ignored (value_then line v here is) ∙ (speaks is.1 v is.5).spoken (tokens_of is.2) in
    ap (values_of (suc (length (here ++ later)))) (not_passed_over n (tokens_of line) more (sym spoken)) ∙ line_adds (v ∷ here) later n line more is behind

-- ---- all lines

lines_are_read : (n : ℕ) (lines : List (List ℕ)) (values : List ℤ) → AreLinesWith lines values → values_of (length values) (tokens_from n lines) ≡ Ok values
unfolding values_of
lines_are_read n [] values none = rw none refl
lines_are_read n (line ∷ lines) values (inl (silent, more)) =
    ap (values_of (length values)) (adds_nothing n line (tokens_from (n + 1) lines) (silent_passed line silent)) ∙ lines_are_read (n + 1) lines values more
lines_are_read n (line ∷ lines) values (inr (here, later, both, is, more)) =
    let P : List ℤ → Type 0 = λ values. values_of (length values) (tokens_from n (line ∷ lines)) ≡ Ok values in
    subst P (sym both) (line_is_read here later n line (tokens_from (n + 1) lines) is (lines_are_read (n + 1) lines later more))

pub value_text_lem : ValueTextLaw
value_text_lem values text are = lines_are_read 1 (lines_of text) values are
