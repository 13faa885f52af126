-- Rows have one list of risen rows.
use Rattle.std.proofs.Common.{◌≡◌, ℕ, suc, ◌<◌, ◌≤◌, Bool, true, false, cond, ltb, List, [], ◌∷◌, length, get_or, sym, ap, refl, ◌∙◌, arith, le-ltb, subst, inl, inr}
use Rattle.std.proofs.lemmas.Bool.{cases_Bool}
use Rattle.std.proofs.lemmas.Bool.Decides.{nat_tests}
use Rattle.std.proofs.lemmas.List.Sums.{sum_by-cons}
use Rattle.std.proofs.lemmas.List.Sorted.{IsNonDecreasingBy-drop, sum_by-IsPermutation}
use Rattle.std.specs.List.{sum_by}
use Rattle.std.specs.List.Sorted.{IsNonDecreasing}
use Rattle.std.specs.Prelude.{IsTrue, ◌↔◌}
use Rattle.hex.specs.Hex.{encode_lower}
use Rattle.sha2.specs.Sha256.{sha256}
use Rattle.s2_rows.specs.Rows.{Rows, row_of}
use Rattle.s2_rows.specs.RowTexts.{rows_text}
use Rattle.s2_table.specs.Rising.{IsRisen, AreRisen, HasSum}

-- one for a number below x
abbrev less : ℕ → ℕ → ℕ
less x y = cond (ltb y x) 1 0

none_below : (x : ℕ) (ys : List ℕ) → ((k d : ℕ) → k < length ys → x ≤ get_or ys k d) → sum_by (less x) ys ≡ 0
none_below x [] h = refl
none_below x (y ∷ ys) h =
    let least : x ≤ y = h 0 0 (omega arith) in
    let test : less x y ≡ 0 = ap (λ b. cond b 1 0) (le-ltb y x least) in
    let rest = none_below x ys (λ k d within. h (suc k) d (omega arith)) in
    sum_by-cons (less x) y ys ∙ omega (arith, test, rest)

-- lists with the same sum of each function
abbrev SameSums : List ℕ → List ℕ → Type 0
SameSums xs ys = (f : ℕ → ℕ) → sum_by f xs ≡ sum_by f ys

-- the first of one is at most that of the other
least_first : (x y : ℕ) (xs ys : List ℕ) → IsNonDecreasing (x ∷ xs) → SameSums (x ∷ xs) (y ∷ ys) → x ≤ y
least_first x y xs ys up same =
    let none = none_below x (x ∷ xs) (λ k d within. up 0 k d (omega arith) within) in
    let first = sum_by-cons (less x) y ys in
    let test : less x y ≡ 0 = omega (arith, none, same (less x), first) in
    elim (cases_Bool (ltb y x)) [ inl low ↦ (let test' = rw low at test in cc) | inr ok ↦ grind (arith, nat_tests) ]

one_list : (xs ys : List ℕ) → IsNonDecreasing xs → IsNonDecreasing ys → SameSums xs ys → xs ≡ ys
one_list [] [] up up' same = refl
one_list [] (y ∷ ys) up up' same = absurd (omega (arith, same (λ z. 1), sum_by-cons (λ z. 1) y ys))
one_list (x ∷ xs) [] up up' same = absurd (omega (arith, same (λ z. 1), sum_by-cons (λ z. 1) x xs))
one_list (x ∷ xs) (y ∷ ys) up up' same =
    let first : x ≡ y = omega (arith, least_first x y xs ys up same, least_first y x ys xs up' (λ f. sym (same f))) in
    let rest = one_list xs ys (IsNonDecreasingBy-drop (λ z. z) 1 (x ∷ xs) up) (IsNonDecreasingBy-drop (λ z. z) 1 (y ∷ ys) up')
    (λ f. omega (arith, same f, sum_by-cons f x xs, sum_by-cons f y ys, ap f first)) in
    ap (λ z. z ∷ xs) first ∙ ap (λ zs. y ∷ zs) rest

pub one_row : (row a b : List ℕ) → IsRisen row a → IsRisen row b → a ≡ b
one_row row a b is is' =
    one_list a b is.rising is'.rising (λ f. sum_by-IsPermutation f row a is.same ∙ sym (sum_by-IsPermutation f row b is'.same))

-- lists with the same rows at all places
same_rows : (a b : List (List ℕ)) → length a ≡ length b → ((g : ℕ) → g < length a → get_or a g [] ≡ get_or b g []) → a ≡ b
same_rows [] [] long each = refl
same_rows [] (y ∷ b) long each = absurd (omega arith)
same_rows (x ∷ a) [] long each = absurd (omega arith)
same_rows (x ∷ a) (y ∷ b) long each =
    ap (λ z. z ∷ a) (each 0 (omega arith)) ∙ ap (λ zs. y ∷ zs) (same_rows a b (omega arith) (λ g within. each (suc g) (omega arith)))

pub one_risen_list : (r : Rows) (a b : List (List ℕ)) → AreRisen r a → AreRisen r b → a ≡ b
one_risen_list r a b is is' =
    same_rows a b (is.long ∙ sym is'.long) (λ g within. one_row (row_of r g) (get_or a g []) (get_or b g []) (is.each g (omega (arith, is.long))) (is'.each g (omega (arith, is.long))))

-- so there is one answer
answers_agree : (a b : Bool) → (IsTrue a → IsTrue b) → (IsTrue b → IsTrue a) → a ≡ b
answers_agree true true f g = refl
answers_agree false false f g = refl
answers_agree true false f g = sym (f refl)
answers_agree false true f g = g refl

pub one_answer : (r : Rows) (sum : List ℕ) (a b : Bool) → HasSum r sum a → HasSum r sum b → a ≡ b
one_answer r sum a b (xs, is, says) (ys, is', says') =
    let P : List (List ℕ) → Type 0 = λ zs. IsTrue b ↔ (encode_lower (sha256 (rows_text zs)) ≡ sum) in
    let same = subst P (sym (one_risen_list r xs ys is is')) says' in
    answers_agree a b (λ t. same.1 (says.0 t)) (λ t. says.1 (same.0 t))
