-- Rows have one first row that differs.
use Rattle.std.proofs.Common.{◌≡◌, ℕ, ◌+◌, ◌<◌, List, Option, Some, None, get_or, sym, ap, subst, refl, ◌∙◌, arith, inl, inr}
use Rattle.std.proofs.lemmas.Bool.{cases_lt}
use Rattle.sha2.specs.Sha256.{sha256}
use Rattle.s2_rows.specs.Rows.{Rows, row_of}
use Rattle.s2_rows.specs.RowTexts.{row_text}
use Rattle.s2_table.specs.RowSums.{front_of, IsRowSum, IsFirstOther, FirstOther}
use Rattle.s2_table.proofs.RisenLaws.{one_row}

one_sum : (row : List ℕ) (a b : ℕ) → IsRowSum row a → IsRowSum row b → a ≡ b
one_sum row a b (xs, is, sum) (ys, is', sum') = sum ∙ ap (λ zs. front_of (sha256 (row_text zs))) (one_row row xs ys is is') ∙ sym sum'

-- the first other row is not among those that have their digest
not_same : (r : Rows) (sums : List ℕ) (line : ℕ) (is : IsFirstOther r sums line) → IsRowSum (row_of r is.group) (get_or sums is.group 0) → ⊥
not_same r sums line is same = is.differs (one_sum (row_of r is.group) is.sum (get_or sums is.group 0) is.is_sum same)

same_line : (r : Rows) (sums : List ℕ) (a b : ℕ) → IsFirstOther r sums a → IsFirstOther r sums b → a ≡ b
same_line r sums a b x y =
    elim (cases_lt x.group y.group) [
      | inl before ↦ absurd (not_same r sums a x (y.before x.group before))
      | inr after ↦
          elim (cases_lt y.group x.group) [
            | inl behind ↦ absurd (not_same r sums b y (x.before y.group behind))
            | inr here ↦ omega (arith, after, here, x.here, y.here)
          ]
    ]

pub one_other : (r : Rows) (sums : List ℕ) (a b : Option ℕ) → FirstOther r sums a → FirstOther r sums b → a ≡ b
one_other r sums None None x y = refl
one_other r sums None (Some line) x y = absurd (not_same r sums line y (x y.group y.within))
one_other r sums (Some line) None x y = absurd (not_same r sums line x (y x.group x.within))
one_other r sums (Some a) (Some b) x y = ap Some (same_line r sums a b x y)

-- one row more that has the digest at its place
pub one_more : (r : Rows) (sums : List ℕ) (n : ℕ) (row : List ℕ) (sum : ℕ) → ((g : ℕ) → g < n → IsRowSum (row_of r g) (get_or sums g 0))
    → row ≡ row_of r n → IsRowSum row sum → sum ≡ get_or sums n 0 → (g : ℕ) → g < n + 1 → IsRowSum (row_of r g) (get_or sums g 0)
one_more r sums n row sum before is_row has same g below =
    elim (cases_lt g n) [
      | inl earlier ↦ before g earlier
      | inr now ↦
          let here : n ≡ g = omega (arith, below, now) in
          let moved : IsRowSum (row_of r n) sum = subst (λ (it : List ℕ). IsRowSum it sum) is_row has in
          let last : IsRowSum (row_of r n) (get_or sums n 0) = subst (λ (s : ℕ). IsRowSum (row_of r n) s) same moved in
          subst (λ (i : ℕ). IsRowSum (row_of r i) (get_or sums i 0)) here last
    ]
