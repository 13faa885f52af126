-- The tables of the division, entry by entry.
use Rattle.std.specs.Prelude.{ℕ, zero, suc, ◌≡◌, ◌+◌, ◌-◌, ◌*◌, ◌^◌, ◌<◌, ◌≤◌, List, [], ◌∷◌, ◌++◌, length}
use Rattle.std.proofs.Common.{sym, ◌∙◌, ap, arith, get_or, inl, inr, length-append}
use Rattle.std.proofs.lemmas.Bool.{cases_lt}
use Rattle.std.proofs.lemmas.List.{get_or_append_left, get_or_push}
use Rattle.s2_bch.specs.Division.{steps}
use Rattle.s2_bch.proofs.DivisionFacts.{steps-add}
use Rattle.s2_bch.specs.declared.register.Register.{Register}
use Rattle.s2_bch.specs.Registers.{value_of, empty}

-- the entries that are there are those of the tables
abbrev pub HasEntries : ℕ → List Register → Type 0
HasEntries low table = (k b : ℕ) → b < 256 → 256 * k + b < length table
    → value_of (get_or table (256 * k + b) empty) ≡ steps 192 low (8 * k + 8) (b * 2 ^ 184)

-- the entry that follows those of the table
pub record IsNextEntry (low : ℕ) (entry : Register) (table : List Register) : Type 0 where
  pub first : length table < 256 → value_of entry ≡ steps 192 low 8 (length table * 2 ^ 184)
  pub later : 256 ≤ length table → value_of entry ≡ steps 192 low 8 (value_of (get_or table (length table - 256) empty))

module _ (low : ℕ) (table : List Register) (entry : Register) (has : HasEntries low table) (next : IsNextEntry low entry table) where
  last-entry : (k b : ℕ) → b < 256 → length table ≡ 256 * k + b → value_of entry ≡ steps 192 low (8 * k + 8) (b * 2 ^ 184)
  last-entry zero b hb e =
      let at : length table ≡ b = omega arith in
      let one : 8 ≡ 8 * zero + 8 = omega arith in
      next.first (omega arith) ∙ ap (λ n. steps 192 low 8 (n * 2 ^ 184)) at ∙ ap (λ n. steps 192 low n (b * 2 ^ 184)) one
  last-entry (suc k) b hb e =
      let positive : 0 < 192 = omega arith in
      let at : length table - 256 ≡ 256 * k + b = omega arith in
      let more : 8 * k + 8 + 8 ≡ 8 * suc k + 8 = omega arith in
      next.later (omega arith)
      ∙ ap (λ n. steps 192 low 8 (value_of (get_or table n empty))) at
      ∙ ap (steps 192 low 8) (has k b hb (omega arith))
      ∙ sym (steps-add 192 low positive (8 * k + 8) 8 (b * 2 ^ 184))
      ∙ ap (λ n. steps 192 low n (b * 2 ^ 184)) more

  pub one_more_entry : HasEntries low (table ++ entry ∷ [])
  one_more_entry k b hb h =
      let long : length (table ++ entry ∷ []) ≡ length table + 1 = omega (arith, length-append table (entry ∷ [])) in
      elim (cases_lt (256 * k + b) (length table)) [
        | inl before ↦ ap value_of (get_or_append_left table (entry ∷ []) empty (256 * k + b) before) ∙ has k b hb before
        | inr behind ↦ let at : length table ≡ 256 * k + b = omega arith in
            ap value_of (get_or_push table entry empty (256 * k + b) at) ∙ last-entry k b hb at
      ]
