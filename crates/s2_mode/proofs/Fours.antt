-- Four symbols written from a place on.
use Rattle.std.proofs.Common.{◌≡◌, ℕ, zero, suc, ◌+◌, ◌-◌, ◌<◌, List, [], ◌∷◌, ap, subst, ◌∙◌, inl, inr, arith}
use Rattle.std.proofs.lemmas.Bool.{cases_lt}
use Rattle.s2_mode.specs.declared.symbols.Symbol.{Symbol}
use Rattle.s2_mode.specs.Symbols.{symbol_at}

-- four more symbols are written
put_at : (at : ℕ) (f : ℕ → Symbol) (now : List Symbol)
    → symbol_at now at ≡ f at → symbol_at now (at + 1) ≡ f (at + 1) → symbol_at now (at + 2) ≡ f (at + 2) → symbol_at now (at + 3) ≡ f (at + 3)
    → (k : ℕ) → k < 4 → symbol_at now (at + k) ≡ f (at + k)
put_at at f now first second third fourth zero lt = let e : at ≡ at + 0 = omega arith in subst (λ m. symbol_at now m ≡ f m) e first
put_at at f now first second third fourth (suc zero) lt = second
put_at at f now first second third fourth (suc (suc zero)) lt = third
put_at at f now first second third fourth (suc (suc (suc zero))) lt = fourth
put_at at f now first second third fourth (suc (suc (suc (suc k)))) lt = absurd (omega arith)

pub four_more : (at : ℕ) (f : ℕ → Symbol) (old now four : List Symbol) → ((j : ℕ) → j < at → symbol_at old j ≡ f j)
    → ((j : ℕ) → j < at → symbol_at now j ≡ symbol_at old j)
    → symbol_at now at ≡ symbol_at four 0 → symbol_at now (at + 1) ≡ symbol_at four 1 → symbol_at now (at + 2) ≡ symbol_at four 2 → symbol_at now (at + 3) ≡ symbol_at four 3
    → four ≡ f at ∷ f (at + 1) ∷ f (at + 2) ∷ f (at + 3) ∷ []
    → (j : ℕ) → j < at + 4 → symbol_at now j ≡ f j
four_more at f old now four done kept first second third fourth is j lt = elim (cases_lt j at) [
  | inl before ↦ kept j before ∙ done j before
  | inr after ↦ (
      let e : at + (j - at) ≡ j = omega arith in
      subst (λ m. symbol_at now m ≡ f m) e
      (put_at at f now
      (first ∙ ap (λ xs. symbol_at xs 0) is) (second ∙ ap (λ xs. symbol_at xs 1) is) (third ∙ ap (λ xs. symbol_at xs 2) is) (fourth ∙ ap (λ xs. symbol_at xs 3) is)
      (j - at) (omega arith))
      )
]
