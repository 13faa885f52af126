-- How many ones lists by a rule hold at some places.
use Rattle.std.proofs.Common.{◌≡◌, ℕ, ◌+◌, ◌<◌, Bool, false, cond, List, [], ◌∷◌, get_or, map, count_by, All, ℤ, refl, sym, ap, ap₂, ◌∙◌, arith}
use Rattle.std.proofs.lemmas.List.{get_or-map}
use Rattle.std.proofs.lemmas.List.Elements.{All-head, All-tail}
use Rattle.std.proofs.lemmas.List.Sums.{sum_by-cons}
use Rattle.std.proofs.lemmas.List.FromFn.{length-range_with_len, get_or-range_with_len}
use Rattle.s2_bits.specs.Bits.{bit_at}
use Rattle.s2_matrix.specs.Total.{upto}
use Rattle.s2_matrix.specs.Code.{Code}
use Rattle.s2_check.specs.Hard.{hard_decision}
use Rattle.s2_split.specs.Scattered.{repaired}
use Rattle.s2_judge.specs.EarlyRepair.{repaired_bit}

count_cons : (p : ℕ → Bool) (x : ℕ) (xs : List ℕ) → count_by p (x ∷ xs) ≡ cond (p x) 1 0 + count_by p xs
count_cons p x xs = sum_by-cons (λ k. cond (p k) 1 0) x xs

count_same : (p q : ℕ → Bool) (xs : List ℕ) → All (λ x. p x ≡ q x) xs → count_by p xs ≡ count_by q xs
count_same p q [] same = refl
count_same p q (x ∷ xs) same =
    let here = All-head (λ y. p y ≡ q y) x xs same in
    let tail = count_same p q xs (All-tail (λ y. p y ≡ q y) x xs same) in
    count_cons p x xs ∙ ap₂ (λ (b : Bool) (n : ℕ). cond b 1 0 + n) here tail ∙ sym (count_cons q x xs)

-- a list that holds what f gives of each number below n
bit_mapped : (f : ℕ → Bool) (n i : ℕ) → i < n → bit_at (map f (upto n)) i ≡ f i
bit_mapped f n i low =
    let place : get_or (upto n) i 0 ≡ i = get_or-range_with_len 0 n i 0 low ∙ omega arith in
    get_or-map f (upto n) i 0 false (omega (arith, length-range_with_len 0 n)) ∙ ap f place

pub ones_mapped : (f : ℕ → Bool) (n : ℕ) (places : List ℕ) → All (λ i. i < n) places → count_by f places ≡ count_by (bit_at (map f (upto n))) places
ones_mapped f n places below =
    count_same f (bit_at (map f (upto n))) places (λ k d within. sym (bit_mapped f n (get_or places k d) (below k d within)))

pub ones_repaired : (code : Code) (soft : List ℤ) (places : List ℕ) → All (λ i. i < code.bits) places → count_by (repaired_bit code (hard_decision soft)) places ≡ count_by (bit_at (repaired code soft)) places
ones_repaired code soft places below =
    ones_mapped (repaired_bit code (hard_decision soft)) code.bits places below
