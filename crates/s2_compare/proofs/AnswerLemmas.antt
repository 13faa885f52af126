-- What the answers rest on: words that differ nowhere, checks that do not hold, and the least cost.
use Rattle.std.proofs.Common.{◌≡◌, ◌≢◌, ◌⊎◌, ℕ, zero, suc, ◌+◌, ◌%◌, ◌<◌, ◌==◌, Bool, true, false, cond, List, [], ◌∷◌, map, length, get_or, drop, count_by, ℤ, ◌≤ℤ◌, ◌<ℤ◌, inl, inr, refl, sym, subst, ap, ap₂, ◌∙◌, arith}
use Rattle.std.proofs.Math.Nat.{eq-or-lt_of_le}
use Rattle.std.proofs.lemmas.Int.{ints}
use Rattle.std.specs.List.{refill}
use Rattle.std.proofs.lemmas.List.{ext_get_or, length-map, take_all, take-append-le}
use Rattle.std.proofs.lemmas.List.FromFn.{length-range_with_len}
use Rattle.std.proofs.lemmas.List.Sums.{sum_by-cons}
use Rattle.s2_bits.specs.Bits.{xor, bit_at, number, differences}
use Rattle.s2_bits.proofs.Sums.{xor_same}
use Rattle.s2_rows.specs.Rows.{Rows}
use Rattle.s2_matrix.specs.Total.{upto}
use Rattle.s2_matrix.specs.Code.{Code, code_of, ones_in, IsCodeword}
use Rattle.s2_matrix.proofs.Flats.{at_upto}
use Rattle.s2_check.specs.Checking.{split_in, IsCertificate}
use Rattle.s2_check.specs.Cost.{cost, IsMostLikely}
use Rattle.s2_check.specs.Strict.{IsStrict, IsSole}
use Rattle.s2_check.specs.Views.{View}
use Rattle.s2_check.specs.declared.verdict.Verdict.{Verdict}
use Rattle.s2_check.proofs.Duality.{weak_duality_lem}
use Rattle.s2_check.proofs.Strictness.{strictness_lem}
use Rattle.s2_compare.specs.Comparing.{odd_checks, IsSame, IsEqual, IsWorse, LikelyLaw, WorseLaw, EqualLaw}

-- ---- words that differ nowhere

xor_zero : (x y : Bool) → number (xor x y) ≡ 0 → x ≡ y
xor_zero true true h = refl
xor_zero true false h = absurd (omega (arith, h))
xor_zero false true h = absurd (omega (arith, h))
xor_zero false false h = refl

zero_each : (n : ℕ) (a b : List Bool) → differences n a b ≡ 0 → (k : ℕ) → k < n → bit_at a k ≡ bit_at b k
zero_each zero a b h k low = absurd (omega (arith, low))
zero_each (suc n) a b h k low = by_case (eq-or-lt_of_le (omega (arith, low))) (zero_each n a b (omega (arith, h)) k)
  where
    by_case : (k ≡ n) ⊎ (k < n) → (k < n → bit_at a k ≡ bit_at b k) → bit_at a k ≡ bit_at b k
    by_case (inl e) before = subst (λ j. bit_at a j ≡ bit_at b j) (sym e) (xor_zero (bit_at a n) (bit_at b n) (omega (arith, h)))
    by_case (inr less) before = before less

-- words of the same length that differ in no bit are the same
pub same_word : (n : ℕ) (a b : List Bool) → n ≡ length a → length a ≡ length b → differences n a b ≡ 0 → a ≡ b
same_word n a b size long h = ext_get_or false a b long (λ k low. zero_each n a b h k (omega (arith, low, size)))

none_self : (n : ℕ) (a : List Bool) → differences n a a ≡ 0
none_self zero a = refl
none_self (suc n) a = ap₂ (λ (d : ℕ) (e : ℕ). d + e) (none_self n a) (ap number (xor_same (bit_at a n)))

-- words that differ in a bit are not the same
pub other_word : (n : ℕ) (a b : List Bool) → differences n a b ≢ 0 → a ≢ b
other_word n a b some same = some (ap (λ (w : List Bool). differences n a w) (sym same) ∙ none_self n a)

-- ---- checks that do not hold

count-map : (f : ℕ → Bool) (xs : List ℕ) → count_by (λ b. b) (map f xs) ≡ count_by f xs
count-map f [] = refl
count-map f (x ∷ xs) =
    sum_by-cons (λ (b : Bool). cond b 1 0) (f x) (map f xs) ∙ ap (λ (n : ℕ). cond (f x) 1 0 + n) (count-map f xs) ∙ sym (sum_by-cons (λ y. cond (f y) 1 0) x xs)

pub odd_count : (code : Code) (word odd : List Bool) → length odd ≡ code.checks → ((j : ℕ) → j < code.checks → bit_at odd j ≡ (ones_in code word j % 2 == 1)) → count_by (λ b. b) odd ≡ odd_checks code word
odd_count code word odd long are =
    let f : ℕ → Bool = λ j. ones_in code word j % 2 == 1 in
    let size : length (map f (upto code.checks)) ≡ code.checks = length-map (upto code.checks) f ∙ length-range_with_len 0 code.checks in
    let same : odd ≡ map f (upto code.checks) = ext_get_or false odd (map f (upto code.checks)) (long ∙ sym size) (λ k low. are k (omega (arith, low, long)) ∙ sym (at_upto f code.checks k false (omega (arith, low, long)))) in
    ap (count_by (λ b. b)) same ∙ count-map f (upto code.checks)

-- ---- laws

most_likely : (rows : Rows) (view : View) → IsCertificate rows view → IsMostLikely (code_of rows) view.soft view.bits
most_likely rows view h = weak_duality_lem (code_of rows) view.soft (split_in rows view) view.bits h.accepted

sole_word : (rows : Rows) (view : View) → IsStrict rows view → IsSole (code_of rows) view.soft view.bits
sole_word rows view h = strictness_lem (code_of rows) view.soft (split_in rows view) view.bits h.certificate.accepted h.strict

pub likely_lem : LikelyLaw
likely_lem rows view word = (
  λ verdict paid h. subst (IsMostLikely (code_of rows) view.soft) (sym h.same) (most_likely rows view h.accepted),
  λ paid changed h. record {
    codeword = h.codeword;
    least = λ other in_code. subst (λ (c : ℤ). c ≤ℤ cost view.soft other) (sym h.least ∙ h.costs) ((most_likely rows view h.accepted).least other in_code);
  },
)

pub worse_lem : WorseLaw
worse_lem rows view word paid best changed h likely =
    let low : cost view.soft word ≤ℤ cost view.soft view.bits = likely.least view.bits (most_likely rows view h.accepted).codeword in
    let high : cost view.soft view.bits <ℤ cost view.soft word = subst (λ (c : ℤ). c <ℤ cost view.soft word) h.least (subst (λ (c : ℤ). best <ℤ c) h.costs h.more) in
    omega (arith, ints, low, high)

pub equal_lem : EqualLaw
equal_lem rows view word paid changed h strict =
    let more : cost view.soft view.bits <ℤ cost view.soft word = (sole_word rows view strict).alone word h.codeword h.other in
    let same : cost view.soft view.bits ≡ cost view.soft word = sym h.least ∙ h.costs in
    omega (arith, ints, more, same)

-- ---- slices that are lent

-- one that has the list's length is the whole list
pub refill_whole : (n : ℕ) (xs ws : List Bool) → length ws ≡ n → refill n xs ws ≡ ws
refill_whole n xs ws long = take-append-le n ws (drop (length ws) xs) (omega arith) ∙ take_all n ws (omega arith)
