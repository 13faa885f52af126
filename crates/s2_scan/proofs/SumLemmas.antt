-- Sums of symbols that grow by one.
use Rattle.std.proofs.Common.{◌≡◌, ℕ, suc, ◌+◌, ◌*◌, ◌≤◌, ◌<◌, List, [], ◌∷◌, ◌++◌, map, length, get_or, add-one, ap, refl, sym, subst, ◌∙◌, inl, inr, arith, pos, ◌+ℤ◌, unsigned_abs}
use Rattle.std.specs.Prelude.{Bool, true, false, ◌==◌, if◌then◌else◌}
use Rattle.std.specs.List.{range_with_len}
use Rattle.std.proofs.lemmas.Bool.{cases_lt}
use Rattle.std.proofs.lemmas.Int.{ints}
use Rattle.std.proofs.lemmas.List.{get_or_append_left, map-append}
use Rattle.std.proofs.Math.Seq.{get_or-append_seam}
use Rattle.s2_scan.specs.Inside.{IsWithin}
use Rattle.s2_scan.specs.Sums.{no_sum, plus, sum_below, turned_back}
use Rattle.s2_scan.specs.declared.sums.Sum.{Sum}
use Rattle.s2_scan.proofs.Ranges.{below_more}

pub sum_none : (f : ℕ → Sum) → no_sum ≡ sum_below f 0
unfolding sum_below
sum_none f = refl

pub sum_more : (f : ℕ → Sum) (n : ℕ) → plus (sum_below f n) (f n) ≡ sum_below f (n + 1)
unfolding sum_below
sum_more f n = sym (ap (sum_below f) (add-one n))

-- nothing is within each bound
pub none_within : (most : ℕ) → IsWithin most no_sum
none_within most = record { i = omega (arith, ints); q = omega (arith, ints) }

-- a sum with more room
pub within_more : (least most : ℕ) (s : Sum) → least ≤ most → IsWithin least s → IsWithin most s
within_more least most s le within = record { i = omega (arith, le, within.i); q = omega (arith, le, within.q) }

-- two sums together
pub within_plus : (m n : ℕ) (a b : Sum) → IsWithin m a → IsWithin n b → IsWithin (m + n) (plus a b)
within_plus m n a b p q =
    let ai = p.i in
    let aq = p.q in
    let bi = q.i in
    let bq = q.q in
    record { i = omega (arith, ints, ai, bi); q = omega (arith, ints, aq, bq) }

-- the same sum, rotated
if_within : (b : Bool) (most : ℕ) (s t : Sum) → IsWithin most s → IsWithin most t → IsWithin most (if b then s else t)
if_within true most s t p q = p
if_within false most s t p q = q

pub turned_within : (n most : ℕ) (s : Sum) → IsWithin most s → IsWithin most (turned_back n s)
turned_within n most s within =
    let i = within.i in
    let q = within.q in
    if_within (n == 0) most _ _ within
    (if_within (n == 1) most _ _ (record { i = q; q = omega (arith, ints, i) })
    (if_within (n == 2) most _ _ (record { i = omega (arith, ints, i); q = omega (arith, ints, q) }) (record { i = omega (arith, ints, q); q = i })))

-- one more number's sum is put at the end
pub mapped_more : (f : ℕ → Sum) (sums : List Sum) (n : ℕ) → sums ≡ map f (range_with_len 0 n) → sums ++ f n ∷ [] ≡ map f (range_with_len 0 (n + 1))
mapped_more f sums n is =
    ap (λ xs. xs ++ f n ∷ []) is ∙ (sym (map-append f (range_with_len 0 n) (n ∷ [])) ∙ ap (map f) (sym (below_more n)))

-- and each of them is within its bound
pub each_more : (sums : List Sum) (s : Sum) (n most : ℕ) → length sums ≡ n → ((j : ℕ) → j < n → IsWithin most (get_or sums j no_sum)) → IsWithin most s
    → (j : ℕ) → j < n + 1 → IsWithin most (get_or (sums ++ s ∷ []) j no_sum)
each_more sums s n most size each last j lt = elim (cases_lt j n) [
  | inl before ↦ subst (IsWithin most) (sym (get_or_append_left sums (s ∷ []) no_sum j (omega (arith, size, before)))) (each j before)
  | inr past ↦
      let here : length sums ≡ j = omega (arith, size, past, lt) in
      subst (λ (k : ℕ). IsWithin most (get_or (sums ++ s ∷ []) k no_sum)) here (subst (IsWithin most) (sym (get_or-append_seam sums s [] no_sum)) last)
]
