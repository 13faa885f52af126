-- Values of a text, decided bits or soft values, are soft values.
use Rattle.std.proofs.Common.{◌≡◌, ℕ, zero, suc, ◌+◌, ◌-◌, ◌==◌, true, false, Bool, List, [], ◌∷◌, All, ℤ, pos, neg_ℤ, Result, Ok, Err, inl, inr, refl, subst, arith}
use Rattle.std.proofs.lemmas.Bool.{cases_Bool}
use Rattle.std.proofs.lemmas.Int.{ints}
use Rattle.s2_mode.specs.Limits.{max_soft}
use Rattle.s2_rows.specs.declared.values.ValueFault.{ValueFault}
use Rattle.s2_rows.specs.Text.{lines_of}
use Rattle.s2_rows.specs.Values.{tokens_from}
use Rattle.s2_check.specs.Views.{IsSoft}
use Rattle.s2_judging.specs.Hard.{bit_of, bits_of, text_by}
use Rattle.s2_judging.proofs.ValueRange.{reading_soft, joined}

one_soft : IsSoft (pos 1)
one_soft = record { low = omega (arith, ints); high = omega (arith, ints) }

minus_soft : IsSoft (neg_ℤ (pos 1))
minus_soft = record { low = omega (arith, ints); high = omega (arith, ints) }

bit_soft : (line : ℕ) (token : List ℕ) (v : ℤ) → bit_of line token ≡ Ok v → IsSoft v
bit_soft line [] v h = cc
bit_soft line (b ∷ c ∷ bytes) v h = cc
bit_soft line (b ∷ []) v h =
    elim (cases_Bool (b == 48)) [
      | inl none ↦ (let h' = rw none at h in let same : pos 1 ≡ v = cc in subst IsSoft same one_soft)
      | inr other ↦ (let h' = rw other at h in elim (cases_Bool (b == 49)) [
        | inl one ↦ (let h'' = rw one at h' in let same : neg_ℤ (pos 1) ≡ v = cc in subst IsSoft same minus_soft)
        | inr neither ↦ (let h'' = rw neither at h' in cc)
      ])
    ]

bits_soft : (left : ℕ) (tokens : List (ℕ × List ℕ)) (vs : List ℤ) → bits_of left tokens ≡ Ok vs → All IsSoft vs
unfolding bits_of
bits_soft left [] vs h =
    elim (cases_Bool (left == 0)) [ inl none ↦ (let h' = rw none at h in let same : [] ≡ vs = cc in subst (All IsSoft) same (λ k d within. absurd (omega arith))) | inr some ↦ (let h' = rw some at h in cc) ]
bits_soft left (token ∷ tokens) vs h =
    elim (cases_Bool (left == 0)) [ inl none ↦ (let h' = rw none at h in cc) | inr some ↦ (let h' = rw some at h in joined (bit_of token.0 token.1) (bits_of (left - 1) tokens) vs (λ v e. bit_soft token.0 token.1 v e) (λ ws e. bits_soft (left - 1) tokens ws e) h') ]

pub text_soft : (hard : Bool) (text : List ℕ) (count : ℕ) (vs : List ℤ) → text_by hard text count ≡ Ok vs → All IsSoft vs
text_soft true text count vs h = bits_soft count (tokens_from 1 (lines_of text)) vs h
text_soft false text count vs h = reading_soft text count vs h
