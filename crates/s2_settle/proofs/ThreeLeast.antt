-- The three least inputs of a check, by how many inputs are at most a number.
use Rattle.std.proofs.Common.{◌≡◌, ◌≢◌, ℕ, zero, suc, ◌+◌, ◌-◌, ◌<◌, ◌≤◌, ◌==◌, nat_lt, not, min, max, Bool, true, false, cond, List, [], ◌∷◌, length, get_or, sum_by, filter, All, eqb, refl, ap, sym, ◌∙◌, inl, inr, arith, eq-eqb, ne_eqb, lt-ltb, le-ltb}
use Rattle.std.specs.List.{AllPairs, list_any}
use Rattle.std.proofs.lemmas.Bool.{cases_Bool, cases_lt, cases_eq, eqb-true}
use Rattle.std.proofs.lemmas.List.Elements.{filter_passes, All-nil, All-cons}
use Rattle.std.proofs.lemmas.List.Kept.{AllPairs-cons, AllPairs-filter}
use Rattle.std.proofs.lemmas.List.Folds.{list_any_at}
use Rattle.std.proofs.lemmas.List.{get_or_default}
use Rattle.std.proofs.lemmas.List.Sums.{sum_by-cons}
use Rattle.s2_minsum.specs.Plain.{others}
use Rattle.s2_minsum.proofs.Orders.{Within, sum_within, in_filter}
use Rattle.s2_settle.specs.Nodes.{min1_of, min2_of, min3_of}
use Rattle.s2_settle.specs.Plain.{least_of, least_input}
use Rattle.s2_settle.proofs.LeastMember.{run, least_has}

-- 1 if x is at most v, else 0
abbrev pub at_most : ℕ → ℕ → ℕ
at_most v x = cond {A = ℕ} (nat_lt v x) 0 1

pub by_at_most : {P : Type 0} (v x : ℕ) → (x ≤ v → at_most v x ≡ 1 → P) → (v < x → at_most v x ≡ 0 → P) → P
by_at_most v x low high = elim (cases_lt v x) [
  | inl lt ↦ high lt (ap (λ b. cond {A = ℕ} b 0 1) (lt-ltb v x lt))
  | inr le ↦ low le (ap (λ b. cond {A = ℕ} b 0 1) (le-ltb v x le))
]

bit : (v x : ℕ) → at_most v x ≤ 1
bit v x = by_at_most v x (λ _ is. omega (arith, is)) (λ _ is. omega (arith, is))

none_at_most : (v : ℕ) → v < 65535 → at_most v 65535 ≡ 0
none_at_most v lt = by_at_most v 65535 (λ le _. absurd (omega (arith, lt, le))) (λ _ is. is)

pub at_most_min : (v x y : ℕ) → at_most v (min x y) ≡ max (at_most v x) (at_most v y)
at_most_min v x y =
    by_at_most v x
    (λ a a'. by_at_most v (min x y) (λ _ c. omega (arith, a', c, bit v y)) (λ b _. absurd (omega (arith, a, b))))
    (λ a a'. by_at_most v y
    (λ b b'. by_at_most v (min x y) (λ _ c. omega (arith, a', b', c)) (λ d _. absurd (omega (arith, b, d))))
    (λ b b'. by_at_most v (min x y) (λ d _. absurd (omega (arith, a, b, d))) (λ _ c. omega (arith, a', b', c))))

pub at_most_max : (v x y : ℕ) → at_most v (max x y) ≡ min (at_most v x) (at_most v y)
at_most_max v x y =
    by_at_most v x
    (λ a a'. by_at_most v y
    (λ b b'. by_at_most v (max x y) (λ _ c. omega (arith, a', b', c)) (λ d _. absurd (omega (arith, a, b, d))))
    (λ b b'. by_at_most v (max x y) (λ d _. absurd (omega (arith, b, d))) (λ _ c. omega (arith, a', b', c))))
    (λ a a'. by_at_most v (max x y) (λ d _. absurd (omega (arith, a, d))) (λ _ c. omega (arith, a', c, bit v y)))

-- numbers are the same if as many are at most each
pub same_by : (x y : ℕ) → x ≤ 65535 → y ≤ 65535 → ((v : ℕ) → v < 65535 → at_most v x ≡ at_most v y) → x ≡ y
same_by x y low low' same = elim (cases_lt x y) [
  | inl lt ↦ absurd (let is = same x (omega arith) in by_at_most x x (λ _ a. by_at_most x y (λ le _. omega (arith, le, lt)) (λ _ b. omega (arith, is, a, b))) (λ gt _. omega (arith, gt)))
  | inr le ↦ elim (cases_lt y x) [
    | inl lt ↦ absurd (let is = same y (omega arith) in by_at_most y y (λ _ a. by_at_most y x (λ le' _. omega (arith, le', lt)) (λ _ b. omega (arith, is, a, b))) (λ gt _. omega (arith, gt)))
    | inr le' ↦ omega arith
  ]
]

-- ---- by places

-- how many of the first n numbers are at most v
abbrev pub count : (ℕ → ℕ) → ℕ → ℕ → ℕ
count f v zero = 0
count f v (suc n) = count f v n + at_most v (f n)

pub record AreThree (v many x y z : ℕ) : Type 0 where
  pub one : at_most v x ≡ min 1 many
  pub two : at_most v y ≡ min 1 (many - 1)
  pub three : at_most v z ≡ min 1 (many - 2)

pub three_at : (f : ℕ → ℕ) (v n : ℕ) → v < 65535 → AreThree v (count f v n) (min1_of f n) (min2_of f n) (min3_of f n)
three_at f v zero low = (let none = none_at_most v low in record { one = none; two = none; three = none })
three_at f v (suc n) low =
    let before = three_at f v n low in
    let x = bit v (f n) in
    record {
      one = at_most_min v (min1_of f n) (f n) ∙ omega (arith, before.one, x);
      two = at_most_min v (min2_of f n) (max (min1_of f n) (f n)) ∙ omega (arith, before.one, before.two, at_most_max v (min1_of f n) (f n), x);
      three = at_most_min v (min3_of f n) (max (min2_of f n) (f n)) ∙ omega (arith, before.two, before.three, at_most_max v (min2_of f n) (f n), x);
    }

-- ---- by members

-- 1 if the input of a member is at most v
abbrev pub each : (ℕ → ℕ) → ℕ → ℕ → ℕ
each g v i = at_most v (g i)

module _ (g : ℕ → ℕ) (v : ℕ) (low : v < 65535) where
  run_at_most : (k : ℕ) (ms : List ℕ) → at_most v (g (run g k ms)) ≡ min 1 (each g v k + sum_by (each g v) ms)
  run_at_most k [] = omega (arith, bit v (g k))
  run_at_most k (m ∷ ms) =
      let whole = sum_by-cons (each g v) m ms in
      let one = bit v (g k) in
      let two = bit v (g m) in
      elim (cases_lt (g m) (g k)) [
        | inl lt ↦ (
            let less = lt-ltb (g m) (g k) lt in
            let more : each g v k ≤ each g v m = by_at_most v (g k) (λ a a'. by_at_most v (g m) (λ _ b. omega (arith, a', b)) (λ b _. absurd (omega (arith, a, b, lt)))) (λ _ a'. omega (arith, a')) in
            ap (λ (b : Bool). at_most v (g (run g (cond b m k) ms))) less ∙ run_at_most m ms ∙ omega (arith, whole, more, one, two)
            )
        | inr le ↦ (
            let less = le-ltb (g m) (g k) le in
            let more : each g v m ≤ each g v k = by_at_most v (g m) (λ a a'. by_at_most v (g k) (λ _ b. omega (arith, a', b)) (λ b _. absurd (omega (arith, a, b, le)))) (λ _ a'. omega (arith, a')) in
            ap (λ (b : Bool). at_most v (g (run g (cond b m k) ms))) less ∙ run_at_most k ms ∙ omega (arith, whole, more, one, two)
            )
      ]

  least_at_most : (ms : List ℕ) → at_most v (least_input g ms) ≡ min 1 (sum_by (each g v) ms)
  least_at_most [] = none_at_most v low
  least_at_most (m ∷ ms) = run_at_most m ms ∙ ap (min 1) (sym (sum_by-cons (each g v) m ms))

-- a member and the others
pub without : (h : ℕ → ℕ) (ms : List ℕ) (t : ℕ) → AllPairs (λ a b. a ≢ b) ms → list_any (λ m. m == t) ms ≡ true → sum_by h ms ≡ h t + sum_by h (others ms t)
without h ms t apart has =
    let test : ℕ → Bool = λ k. not (k == t) in
    let rest = others ms t in
    let not_t : All (λ k. t ≢ k) rest = λ i d lt same. (let passes = filter_passes test ms i d lt in let e : test (get_or rest i d) ≡ false = ap not (eq-eqb (get_or rest i d) t (sym same)) in let e' : true ≡ false = sym passes ∙ e in cc) in
    let apart' : AllPairs (λ a b. a ≢ b) (t ∷ rest) = AllPairs-cons (λ a b. a ≢ b) t rest not_t (AllPairs-filter (λ a b. a ≢ b) test ms apart) in
    let up = sum_within h ms (t ∷ rest) apart (λ k lt. here k lt) in
    let down = sum_within h (t ∷ rest) ms apart' (λ k lt. back k lt) in
    omega (arith, up, down, sum_by-cons h t rest)
  where
    own : (k : ℕ) → k < length ms → list_any (λ m. m == get_or ms k 0) ms ≡ true
    own k lt = list_any_at (λ m. m == get_or ms k 0) ms k 0 lt (eq-eqb (get_or ms k 0) (get_or ms k 0) refl)

    here : Within ms (t ∷ others ms t)
    here k lt = elim (cases_Bool (t == get_or ms k 0)) [
      | inl same ↦ rw same refl
      | inr other ↦ (
          let passes : not (get_or ms k 0 == t) ≡ true = ap not (ne_eqb (get_or ms k 0) t (λ s. (let e : (t == get_or ms k 0) ≡ true = eq-eqb t (get_or ms k 0) (sym s) in let e' : true ≡ false = sym e ∙ other in cc))) in
          rw other (in_filter (λ m. not (m == t)) (get_or ms k 0) passes ms (own k lt))
          )
    ]

    kept : (y : ℕ) (xs : List ℕ) → list_any (λ m. m == y) (filter (λ m. not (m == t)) xs) ≡ true → list_any (λ m. m == y) xs ≡ true
    kept y [] is = is
    kept y (x ∷ xs) is = elim (cases_Bool (x == y)) [
      | inl same ↦ rw same refl
      | inr other ↦ elim (cases_Bool (x == t)) [
        | inl out ↦ (let is' : list_any (λ m. m == y) (filter (λ m. not (m == t)) xs) ≡ true = rw out at is in rw other (kept y xs is'))
        | inr stays ↦ (
            let is' : list_any (λ m. m == y) (x ∷ filter (λ m. not (m == t)) xs) ≡ true = rw stays at is in
            let is'' : list_any (λ m. m == y) (filter (λ m. not (m == t)) xs) ≡ true = rw other at is' in
            rw other (kept y xs is'')
            )
      ]
    ]

    back : Within (t ∷ others ms t) ms
    back zero lt = has
    back (suc k) lt =
        let rest = others ms t in
        let y = get_or rest k 0 in
        kept y ms (list_any_at (λ m. m == y) rest k 0 (omega arith) (eq-eqb y y refl))

-- the least, the least of the others, and the least without both
pub three_by : (g : ℕ → ℕ) (v : ℕ) → v < 65535 → (ms : List ℕ) → AllPairs (λ a b. a ≢ b) ms
    → AreThree v (sum_by (each g v) ms) (least_input g ms) (least_input g (others ms (least_of g ms))) (least_input g (others (others ms (least_of g ms)) (least_of g (others ms (least_of g ms)))))
three_by g v low [] apart = (let none = none_at_most v low in record { one = none; two = none; three = none })
three_by g v low (m ∷ ms) apart =
    let all = m ∷ ms in
    let t = least_of g all in
    go (others all t) refl (AllPairs-filter (λ a b. a ≢ b) (λ k. not (k == t)) all apart)
  where
    go : (rest : List ℕ) → others (m ∷ ms) (least_of g (m ∷ ms)) ≡ rest → AllPairs (λ a b. a ≢ b) rest → AreThree v (sum_by (each g v) (m ∷ ms)) (least_input g (m ∷ ms)) (least_input g rest) (least_input g (others rest (least_of g rest)))
    go [] is apart' =
        let own = least_at_most g v low (m ∷ ms) in
        let whole = without (each g v) (m ∷ ms) (least_of g (m ∷ ms)) apart (least_has g m ms) in
        let none = none_at_most v low in
        let empty : sum_by (each g v) (others (m ∷ ms) (least_of g (m ∷ ms))) ≡ 0 = ap (sum_by (each g v)) is in
        record { one = own; two = none ∙ omega (arith, own, whole, empty); three = none ∙ omega (arith, own, whole, empty) }
    go (k ∷ ks) is apart' =
        let own = least_at_most g v low (m ∷ ms) in
        let whole = without (each g v) (m ∷ ms) (least_of g (m ∷ ms)) apart (least_has g m ms) in
        let rest = k ∷ ks in
        let part : sum_by (each g v) (others (m ∷ ms) (least_of g (m ∷ ms))) ≡ sum_by (each g v) rest = ap (sum_by (each g v)) is in
        let own' = least_at_most g v low rest in
        let whole' = without (each g v) rest (least_of g rest) apart' (least_has g k ks) in
        let own'' = least_at_most g v low (others rest (least_of g rest)) in
        record {
          one = own;
          two = own' ∙ omega (arith, own, whole, part);
          three = own'' ∙ omega (arith, own, whole, part, own', whole');
        }
