-- Lists over the numbers below n.
use Rattle.std.proofs.Common.{◌≡◌, ℕ, zero, suc, ◌+◌, ◌<◌, List, [], ◌∷◌, ◌++◌, map, append-nil, ap, sym, ◌∙◌, refl, arith}
use Rattle.std.specs.List.{flat_map, range_with_len}
use Rattle.std.proofs.lemmas.List.{flat_map_more}
use Rattle.std.proofs.lemmas.List.FromFn.{fill_by_all, get_or-map-range_with_len, length-map-range_with_len}

range_more : (a n : ℕ) → range_with_len a (suc n) ≡ range_with_len a n ++ (a + n) ∷ []
range_more a zero = let same : a ≡ a + zero = omega arith in ap (λ k. k ∷ []) same
range_more a (suc n) =
    let next : a + 1 + n ≡ a + suc n = omega arith in
    ap (λ xs. a ∷ xs) (range_more (a + 1) n) ∙ ap (λ k. a ∷ (range_with_len (a + 1) n ++ k ∷ [])) next

pub below_more : (n : ℕ) → range_with_len 0 (n + 1) ≡ range_with_len 0 n ++ n ∷ []
below_more n =
    let next : n + 1 ≡ suc n = omega arith in
    let last : 0 + n ≡ n = omega arith in
    ap (range_with_len 0) next ∙ (range_more 0 n ∙ ap (λ k. range_with_len 0 n ++ k ∷ []) last)

-- one more number's part is put behind the others
pub flat_more : {A : Type 0} (f : ℕ → List A) (front : List A) (n : ℕ) → (front ++ flat_map f (range_with_len 0 n)) ++ f n ≡ front ++ flat_map f (range_with_len 0 (n + 1))
flat_more f front n = flat_map_more f front (range_with_len 0 n) n ∙ ap (λ ks. front ++ flat_map f ks) (sym (below_more n))

pub flat_none : {A : Type 0} (f : ℕ → List A) (front : List A) → front ≡ front ++ flat_map f (range_with_len 0 0)
flat_none f front = sym (append-nil front)

-- maps that agree below n
pub same_maps : {X : Type 0} (f g : ℕ → X) (n : ℕ) → ((k : ℕ) → k < n → f k ≡ g k) → map f (range_with_len 0 n) ≡ map g (range_with_len 0 n)
same_maps f g n each =
    fill_by_all g (map f (range_with_len 0 n)) n (f 0) (length-map-range_with_len f 0 n)
    (λ k lt. let here : 0 + k ≡ k = omega arith in get_or-map-range_with_len f 0 n k k (f 0) lt here ∙ each k lt)

-- parts that are all empty
pub flat_empty : {A : Type 0} (f : ℕ → List A) (ks : List ℕ) → ((k : ℕ) → f k ≡ []) → flat_map f ks ≡ []
flat_empty f [] none = refl
flat_empty f (k ∷ ks) none = ap (λ part. part ++ flat_map f ks) (none k) ∙ flat_empty f ks none
