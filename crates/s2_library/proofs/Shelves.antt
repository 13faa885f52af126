-- Shelves (own).
use Rattle.std.proofs.Common.{Bor, map, inl, inr, ◌≡◌, ℕ, ◌+◌, ◌<◌, List, [], ◌∷◌, ◌++◌, length, get_or, Result, Ok, Err, refl, sym, ap, subst, ◌∙◌, arith, length-append}
use Rattle.std.specs.Prelude.{IfOk}
use Rattle.std.proofs.Math.Seq.{get_or-append_seam}
use Rattle.std.proofs.lemmas.Bool.{cases_lt}
use Rattle.std.proofs.lemmas.List.{get_or-map}
use Rattle.s2_rows.specs.Rows.{Rows}
use Rattle.s2_library.specs.Shelves.{HaveSameRows, IsOn, Puts}

pub same_rows : (r : Rows) → HaveSameRows r r
same_rows r = record { shape = refl; rows = λ g low. refl }

-- what was put last is on the shelf
pub IsOn_last : (xs : List Rows) (m : Rows) → IsOn m (xs ++ m ∷ [])
IsOn_last xs m =
    let low : length xs < length (xs ++ m ∷ []) = omega (arith, length-append xs (m ∷ [])) in
    (length xs, low, subst (λ (r : Rows). HaveSameRows r m) (sym (get_or-append_seam xs m [] m)) (same_rows m))

-- one more item that has other rows
pub none_more : (xs : List Rows) (m x : Rows) (i k : ℕ) → ((j : ℕ) → j < i → HaveSameRows (get_or xs j m) m → ⊥) → get_or xs i m ≡ x → (HaveSameRows x m → ⊥) → k < i + 1 → HaveSameRows (get_or xs k m) m → ⊥
none_more xs m x i k before is differs low same =
    elim (cases_lt k i) [
      | inl less ↦ before k less same
      | inr more ↦ (let at : k ≡ i = omega arith in differs (subst (λ (r : Rows). HaveSameRows r m) (ap (λ j. get_or xs j m) at ∙ is) same))
    ]

-- what a loop over codes has at a place is what the shelf has there
pub item_is : {X : Type 0} → (xs : List (Bor X)) (shelf : List X) (i : ℕ) (x : Bor X) (m : X) → shelf ≡ map (λ (b : Bor X). b.now) xs → i < length xs → x ≡ get_or xs i x → get_or shelf i m ≡ x.now
item_is xs shelf i x m view low at =
    ap (λ s. get_or s i m) view ∙ get_or-map (λ b. b.now) xs i x m low ∙ ap (λ b. b.now) (sym at)

-- a code of these rows that was put last, because the shelf had none
pub shelved : (old new : List Rows) (code m : Rows) → code ≡ m → new ≡ old ++ code ∷ [] → (IsOn m old → ⊥) → HaveSameRows code m × IsOn m new × Puts m old new
shelved old new code m is put none =
    let last : new ≡ old ++ m ∷ [] = put ∙ ap (λ r. old ++ r ∷ []) is in
    (subst (λ (r : Rows). HaveSameRows r m) (sym is) (same_rows m), subst (IsOn m) (sym last) (IsOn_last old m), record { again = λ on. absurd (none on); other = λ _. last })

-- the same of a result
pub put_last : {E : Type 0} → (old new : List Rows) (m : Rows) (result : Result (Bor Rows) E) → IfOk result (λ b. (b.now ≡ m) × (new ≡ old ++ b.now ∷ []))
    → (IsOn m old → ⊥) → IfOk result (λ b. HaveSameRows b.now m × IsOn m new × Puts m old new)
put_last old new m (Ok b) (is, put) none = shelved old new b.now m is put none
put_last old new m (Err fault) h none = h
