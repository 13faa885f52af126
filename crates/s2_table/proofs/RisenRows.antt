-- Rows that rise, one more in each turn.
use Rattle.std.proofs.Common.{◌≡◌, ◌≢◌, ℕ, ◌+◌, ◌<◌, List, [], ◌∷◌, ◌++◌, length, get_or, sym, subst, refl, arith, inl, inr}
use Rattle.std.proofs.lemmas.Bool.Decides.{eqb_tells}
use Rattle.std.proofs.lemmas.List.{length-append, get_or_append_left, get_or_push, flat_map_more}
use Rattle.s2_rows.specs.Rows.{Rows, row_of}
use Rattle.s2_rows.specs.RowTexts.{row_text, rows_text}
use Rattle.s2_table.specs.Rising.{IsRisen}

-- those of the groups before one
abbrev pub RisenBefore : Rows → ℕ → List (List ℕ) → Type 0
RisenBefore r n risen = (length risen ≡ n) × ((g : ℕ) → g < n → IsRisen (row_of r g) (get_or risen g []))

pub none_risen : (r : Rows) → RisenBefore r 0 []
none_risen r = (refl, λ g below. absurd (omega arith))

pub one_risen : (r : Rows) (n : ℕ) (risen : List (List ℕ)) (row : List ℕ) → RisenBefore r n risen → IsRisen (row_of r n) row → RisenBefore r (n + 1) (risen ++ row ∷ [])
one_risen r n risen row (long, each) is = (
  rw (length-append risen (row ∷ []), long) (refl),
  λ g below. (
      elim (eqb_tells g n) [
        | inl same ↦
            let here : IsRisen (row_of r n) (get_or (risen ++ row ∷ []) n []) = subst (IsRisen (row_of r n)) (sym (get_or_push risen row [] n long)) is in
            subst (λ i. IsRisen (row_of r i) (get_or (risen ++ row ∷ []) i [])) (sym same.1) here
        | inr other ↦
            let apart : g ≢ n = other.1 in
            let less : g < n = omega (arith, below, apart) in
            let within : g < length risen = omega (arith, less, long) in
            subst (IsRisen (row_of r g)) (sym (get_or_append_left risen (row ∷ []) [] g within)) (each g less)
      ]),
)

-- their text
pub one_text : (risen : List (List ℕ)) (row : List ℕ) → rows_text risen ++ row_text row ≡ rows_text (risen ++ row ∷ [])
one_text risen row = flat_map_more row_text [] risen row
