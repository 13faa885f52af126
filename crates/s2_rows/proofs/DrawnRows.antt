-- Drawn rows are rows: each address below n - k, and each once.
use Rattle.std.proofs.Common.{◌≡◌, ℕ, zero, suc, ◌+◌, ◌-◌, ◌%◌, ◌<◌, ◌≤◌, true, List, [], ◌∷◌, ◌++◌, get_or, length, Ok, Err, inl, inr, refl, sym, ap, ◌∙◌, subst, arith, length-append, append_assoc, append-nil}
use Rattle.std.proofs.lemmas.Bool.{cond-true, cond-false, cases_Bool, and_parts, leb-true}
use Rattle.std.proofs.Math.Nat.{mod-lt}
use Rattle.rand_pcg.specs.Lcg.{Lcg}
use Rattle.rand_pcg.specs.Pcg.{pcg32, pcg32_of_seed}
use Rattle.s2_mode.specs.Shape.{Shape, IsShape, check_count}
use Rattle.s2_rows.proofs.Accepted.{still_addresses, IsRow, AreRows, no_rows, one_more_row, are_rows}
use Rattle.s2_rows.proofs.FreeAddresses.{free_from_is_free, free_from_below}
use Rattle.rand_core.specs.Pcg32Seed.{pcg32_seed}
use Rattle.s2_rows.specs.MadeRows.{free_from, drawn_address, drawn_row, drawn_rows, made_rows, is_weight, making, MadeRowsLaw}
use Rattle.s2_rows.specs.declared.make.MakeFault.TheVariants as faults
use Rattle.s2_rows.specs.Rows.{AreAddresses, IsRows, rows_value}

row_drawn : (checks left : ℕ) (row : List ℕ) (g : Lcg) → AreAddresses checks row → length row + left ≤ checks → AreAddresses checks (drawn_row checks left row g).0 × (length (drawn_row checks left row g).0 ≡ length row + left)
unfolding drawn_row
row_drawn checks zero row g are room = (are, omega arith)
row_drawn checks (suc left) row g are room =
    let below : (pcg32 g).0 % checks < checks = mod-lt (pcg32 g).0 (omega arith) in
    let x = drawn_address checks row g in
    let more = still_addresses checks row x are (free_from_below checks row (length row) _ below) (free_from_is_free checks row _ below (omega arith)) in
    let longer : length (row ++ x ∷ []) ≡ length row + 1 = length-append row (x ∷ []) in
    let (whole, long) = row_drawn checks left (row ++ x ∷ []) (pcg32 g).1 more (omega arith) in
    (whole, omega arith)

nothing : (checks : ℕ) → AreAddresses checks []
nothing checks = record { below = λ i d h. absurd (omega arith); apart = λ i j d lt h. absurd (omega arith) }

rows_drawn : (checks weight count : ℕ) (g : Lcg) → 1 ≤ weight → weight ≤ 24 → weight ≤ checks → AreRows checks count (drawn_rows checks weight count g)
unfolding drawn_rows
rows_drawn checks weight zero g some few free = no_rows checks zero refl
rows_drawn checks weight (suc count) g some few free =
    let (are, long) = row_drawn checks weight [] g (nothing checks) (omega arith) in
    let first : IsRow checks (drawn_row checks weight [] g).0 = record { are = are; some = omega arith; short = omega arith } in
    let others = rows_drawn checks weight count (drawn_row checks weight [] g).1 some few free in
    let P : ℕ → Type 0 = λ n. AreRows checks n (drawn_rows checks weight count (drawn_row checks weight [] g).1) in
    let same : count ≡ suc count - 1 = omega arith in
    one_more_row checks (suc count) _ _ (omega arith) first (subst P same others)

pub made_are_rows : (shape : Shape) (weight seed : ℕ) → IsShape shape → 1 ≤ weight → weight ≤ 24 → weight ≤ check_count shape → IsRows (rows_value shape (made_rows shape weight seed))
made_are_rows shape weight seed shaped some few free = are_rows shape _ shaped (rows_drawn (check_count shape) weight shape.groups _ some few free)

-- one address more
pub draws_address : (checks weight i : ℕ) (row next : List ℕ) (g h : Lcg) (word x : ℕ) → i < weight → (word, h) ≡ pcg32 g → x ≡ free_from checks row (length row) (word % checks) → next ≡ row ++ x ∷ [] → drawn_row checks (weight - i) row g ≡ drawn_row checks (weight - (i + 1)) next h
unfolding drawn_row
draws_address checks weight i row next g h word x below drawn is pushed =
    let more : weight - i ≡ suc (weight - (i + 1)) = omega arith in
    let here : drawn_address checks row g ≡ x = ap (λ p. free_from checks row (length row) (p.0 % checks)) (sym drawn) ∙ sym is in
    ap (λ m. drawn_row checks m row g) more ∙ ap (λ y. drawn_row checks (weight - (i + 1)) (row ++ y ∷ []) (pcg32 g).1) here ∙ ap (λ p. drawn_row checks (weight - (i + 1)) (row ++ x ∷ []) p.1) (sym drawn) ∙ ap (λ r. drawn_row checks (weight - (i + 1)) r h) (sym pushed)

pub row_is_drawn : (checks weight i : ℕ) (row : List ℕ) (g : Lcg) → weight ≤ i → drawn_row checks (weight - i) row g ≡ (row, g)
unfolding drawn_row
row_is_drawn checks weight i row g h = let none : weight - i ≡ 0 = omega arith in ap (λ m. drawn_row checks m row g) none

-- one row more
pub draws_row : (checks weight count i : ℕ) (rows : List (List ℕ)) (row : List ℕ) (g h : Lcg) → i < count → (row, h) ≡ drawn_row checks weight [] g → rows ++ drawn_rows checks weight (count - i) g ≡ (rows ++ row ∷ []) ++ drawn_rows checks weight (count - (i + 1)) h
unfolding drawn_rows
draws_row checks weight count i rows row g h below drawn =
    let more : count - i ≡ suc (count - (i + 1)) = omega arith in
    ap (λ m. rows ++ drawn_rows checks weight m g) more ∙ ap (λ p. rows ++ p.0 ∷ drawn_rows checks weight (count - (i + 1)) p.1) (sym drawn) ∙ sym (append_assoc rows (row ∷ []) _)

pub rows_are_drawn : (checks weight count i : ℕ) (rows : List (List ℕ)) (g : Lcg) → count ≤ i → rows ++ drawn_rows checks weight (count - i) g ≡ rows
unfolding drawn_rows
rows_are_drawn checks weight count i rows g h = let none : count - i ≡ 0 = omega arith in ap (λ m. rows ++ drawn_rows checks weight m g) none ∙ append-nil rows

-- what was made by a weight are rows
pub are_made : (shape : Shape) (weight seed : ℕ) (rows : List (List ℕ)) → IsShape shape → making shape weight seed ≡ Ok rows → IsRows (rows_value shape rows)
are_made shape weight seed rows shaped h = elim (cases_Bool (is_weight shape weight)) [
  | inl t ↦ made t
  | inr t ↦ absurd (err_ok rows (sym (cond-false (is_weight shape weight) (Ok (made_rows shape weight seed)) (Err faults.BadWeight) t) ∙ h))
]
  where
    err_ok : (rows : List (List ℕ)) → Err faults.BadWeight ≡ Ok rows → ⊥
    err_ok rows e = cc

    made : is_weight shape weight ≡ true → IsRows (rows_value shape rows)
    made t =
        let same : Ok (made_rows shape weight seed) ≡ Ok rows = sym (cond-true (is_weight shape weight) (Ok (made_rows shape weight seed)) (Err faults.BadWeight) t) ∙ h in
        let is : made_rows shape weight seed ≡ rows = cc in
        let a = and_parts _ _ t in
        let b = and_parts _ _ a.1 in
        let P : List (List ℕ) → Type 0 = λ rows. IsRows (rows_value shape rows) in
        subst P is (made_are_rows shape weight seed shaped (leb-true 1 weight a.0) (leb-true weight 24 b.0) (leb-true weight (check_count shape) b.1))

-- ---- made rows, without the rule

rows_weigh : (checks weight count : ℕ) (g : Lcg) → weight ≤ checks → (i : ℕ) → i < count → length (get_or (drawn_rows checks weight count g) i []) ≡ weight
unfolding drawn_rows
rows_weigh checks weight zero g free i h = absurd (omega arith)
rows_weigh checks weight (suc count) g free zero h = omega (arith, (row_drawn checks weight [] g (nothing checks) (omega arith)).1)
rows_weigh checks weight (suc count) g free (suc i) h = rows_weigh checks weight count (drawn_row checks weight [] g).1 free i (omega arith)

-- an address that stands first stays first
first_stays : (checks left x : ℕ) (row : List ℕ) (g : Lcg) → get_or (drawn_row checks left (x ∷ row) g).0 0 0 ≡ x
unfolding drawn_row
first_stays checks zero x row g = refl
first_stays checks (suc left) x row g = first_stays checks left x (row ++ drawn_address checks (x ∷ row) g ∷ []) (pcg32 g).1

first_drawn : (checks weight count : ℕ) (g : Lcg) → 1 ≤ weight → 1 ≤ count → get_or (get_or (drawn_rows checks weight count g) 0 []) 0 0 ≡ (pcg32 g).0 % checks
unfolding drawn_rows drawn_row free_from
first_drawn checks zero count g some rows = absurd (omega arith)
first_drawn checks (suc weight) zero g some rows = absurd (omega arith)
first_drawn checks (suc weight) (suc count) g some rows = first_stays checks weight ((pcg32 g).0 % checks) [] (pcg32 g).1

pub made_rows_are : MadeRowsLaw
made_rows_are shape weight seed shaped t =
    let a = and_parts _ _ t in
    let b = and_parts _ _ a.1 in
    let some = leb-true 1 weight a.0 in
    let free = leb-true weight (check_count shape) b.1 in
    let g = pcg32_of_seed (pcg32_seed 16 seed) in
    let rows = made_are_rows shape weight seed shaped some (leb-true weight 24 b.0) free in
    record {
      long = rows.long;
      weights = rows_weigh (check_count shape) weight shape.groups g free;
      addresses = rows.each;
      first = first_drawn (check_count shape) weight shape.groups g some shaped.groups_some;
    }
