-- The values that a value file says are from -63 to 63.
use Rattle.std.proofs.Common.{◌≡◌, ℕ, zero, suc, ◌-◌, ◌==◌, true, false, List, [], ◌∷◌, All, ℤ, pos, neg_ℤ, int_lt, Option, Some, None, Result, Ok, Err, inl, inr, refl, subst, arith}
use Rattle.std.proofs.lemmas.Int.{ints}
use Rattle.std.proofs.lemmas.Bool.{cases_Bool}
use Rattle.s2_mode.specs.Limits.{max_soft}
use Rattle.s2_rows.specs.declared.values.ValueFault.{ValueFault}
use Rattle.s2_rows.specs.Readings.{ok_cons}
use Rattle.s2_rows.specs.Text.{lines_of}
use Rattle.s2_rows.specs.Values.{is_value, in_range, number_of, value_of, values_of, tokens_from, values_of_text}
use Rattle.s2_check.specs.Views.{IsSoft}

soft : (v : ℤ) → is_value v ≡ true → IsSoft v
soft v h =
    let not_low : int_lt v (neg_ℤ (pos max_soft)) ≡ false = elim (cases_Bool (int_lt v (neg_ℤ (pos max_soft)))) [ inl low ↦ (let h' = rw low at h in cc) | inr ok ↦ ok ] in
    let not_high : int_lt (pos max_soft) v ≡ false = elim (cases_Bool (int_lt (pos max_soft) v)) [ inl high ↦ (let h' = rw (not_low, high) at h in cc) | inr ok ↦ ok ] in
    record { low = omega (arith, ints); high = omega (arith, ints) }

said : (line : ℕ) (number : Option ℤ) (v : ℤ) → in_range line number ≡ Ok v → IsSoft v
said line None v h = cc
said line (Some u) v h =
    elim (cases_Bool (is_value u)) [ inl fits ↦ (let h' = rw fits at h in let same : u ≡ v = cc in subst IsSoft same (soft u fits)) | inr over ↦ (let h' = rw over at h in cc) ]

in_front : (v : ℤ) (vs : List ℤ) → IsSoft v → All IsSoft vs → All IsSoft (v ∷ vs)
in_front v vs h hs zero d within = h
in_front v vs h hs (suc k) d within = hs k d (omega arith)

pub joined : (a : Result ℤ ValueFault) (b : Result (List ℤ) ValueFault) (vs : List ℤ) → ((v : ℤ) → a ≡ Ok v → IsSoft v) → ((ws : List ℤ) → b ≡ Ok ws → All IsSoft ws) → ok_cons a b ≡ Ok vs → All IsSoft vs
joined (Err e) b vs p q h = cc
joined (Ok v) (Err e) vs p q h = cc
joined (Ok v) (Ok ws) vs p q h = let same : v ∷ ws ≡ vs = cc in subst (All IsSoft) same (in_front v ws (p v refl) (q ws refl))

values_soft : (left : ℕ) (tokens : List (ℕ × List ℕ)) (vs : List ℤ) → values_of left tokens ≡ Ok vs → All IsSoft vs
unfolding values_of
values_soft left [] vs h =
    elim (cases_Bool (left == 0)) [ inl none ↦ (let h' = rw none at h in let same : [] ≡ vs = cc in subst (All IsSoft) same (λ k d within. absurd (omega arith))) | inr some ↦ (let h' = rw some at h in cc) ]
values_soft left (token ∷ tokens) vs h =
    elim (cases_Bool (left == 0)) [ inl none ↦ (let h' = rw none at h in cc) | inr some ↦ (let h' = rw some at h in joined (value_of token.0 token.1) (values_of (left - 1) tokens) vs (λ v e. said token.0 (number_of token.1) v e) (λ ws e. values_soft (left - 1) tokens ws e) h') ]

pub reading_soft : (text : List ℕ) (count : ℕ) (vs : List ℤ) → values_of_text text count ≡ Ok vs → All IsSoft vs
reading_soft text count vs h = values_soft count (tokens_from 1 (lines_of text)) vs h
