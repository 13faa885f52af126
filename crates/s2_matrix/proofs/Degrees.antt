-- A bit has at most 24 checks.
use Rattle.std.proofs.Common.{◌≡◌, ℕ, zero, suc, ◌+◌, ◌-◌, ◌*◌, ◌%◌, ◌/◌, ◌≤◌, ◌==◌, ◌||◌, nat_lt, Bool, true, false, cond, List, [], ◌∷◌, length, inl, inr, refl, sym, ap, arith, lt-ltb, le-ltb}
use Rattle.std.specs.List.{count_by, list_any, range_with_len}
use Rattle.std.proofs.lemmas.Bool.{cases_Bool, cases_lt, eqb-true}
use Rattle.std.proofs.lemmas.List.{length-map}
use Rattle.std.proofs.lemmas.List.Sums.{sum_by-cons, length-filter}
use Rattle.s2_mode.specs.Shape.{information_bits, check_count}
use Rattle.s2_rows.specs.Rows.{Rows, IsRows, row_of}
use Rattle.s2_matrix.specs.Total.{upto}
use Rattle.s2_matrix.specs.Code.{code_of, checks_of, edges_at, edge_of, row_gives}
use Rattle.s2_matrix.proofs.Joins.{div_below}

count_cons : (p : ℕ → Bool) (x : ℕ) (xs : List ℕ) → count_by p (x ∷ xs) ≡ cond (p x) 1 0 + count_by p xs
count_cons p x xs = sum_by-cons (λ y. cond (p y) 1 0) x xs

-- a test that passes at one number only
count_once : (p : ℕ → Bool) (a s n : ℕ) → ((j : ℕ) → p j ≡ true → j ≡ a) → count_by p (range_with_len s n) ≤ cond {A = ℕ} (nat_lt a s) 0 1
count_once p a s zero only = omega arith
count_once p a s (suc n) only =
    let step = count_cons p s (range_with_len (s + 1) n) in
    let rest = count_once p a (s + 1) n only in
    elim (cases_Bool (p s)) [
      | inl yes_p ↦ (
          let here = only s yes_p in
          let after : nat_lt a (s + 1) ≡ true = lt-ltb a (s + 1) (omega arith) in
          let now : nat_lt a s ≡ false = le-ltb a s (omega arith) in
          omega (arith, ap (λ b. cond {A = ℕ} b 1 0) yes_p, ap (λ b. cond {A = ℕ} b 0 1) after, ap (λ b. cond {A = ℕ} b 0 1) now)
          )
      | inr no_p ↦ elim (cases_lt a s) [
        | inl less ↦ (
            let after : nat_lt a (s + 1) ≡ true = lt-ltb a (s + 1) (omega arith) in
            omega (arith, ap (λ b. cond {A = ℕ} b 1 0) no_p, ap (λ b. cond {A = ℕ} b 0 1) after)
            )
        | inr le ↦ (
            let now : nat_lt a s ≡ false = le-ltb a s le in
            let most = one_most (nat_lt a (s + 1)) in
            omega (arith, ap (λ b. cond {A = ℕ} b 1 0) no_p, ap (λ b. cond {A = ℕ} b 0 1) now)
            )
      ]
    ]
  where
    one_most : (b : Bool) → cond {A = ℕ} b 0 1 ≤ 1
    one_most true = omega arith
    one_most false = omega arith

count_either : (p q : ℕ → Bool) (xs : List ℕ) → count_by (λ j. p j || q j) xs ≤ count_by p xs + count_by q xs
count_either p q [] = omega arith
count_either p q (x ∷ xs) =
    omega (arith, count_cons (λ j. p j || q j) x xs, count_cons p x xs, count_cons q x xs, count_either p q xs, either (p x) (q x))
  where
    either : (a b : Bool) → cond {A = ℕ} (a || b) 1 0 ≤ cond {A = ℕ} a 1 0 + cond {A = ℕ} b 1 0
    either true true = omega arith
    either true false = omega arith
    either false true = omega arith
    either false false = omega arith

count_at : (p : ℕ → Bool) (a n : ℕ) → ((j : ℕ) → p j ≡ true → j ≡ a) → count_by p (upto n) ≤ 1
count_at p a n only =
    let some : nat_lt a 0 ≡ false = le-ltb a 0 (omega arith) in
    omega (arith, count_once p a 0 n only, ap (λ b. cond {A = ℕ} b 0 1) some)

count_none : (xs : List ℕ) → count_by (λ j. false) xs ≡ 0
count_none [] = refl
count_none (x ∷ xs) = omega (arith, count_cons (λ j. false) x xs, count_none xs)

-- a row of so many addresses gives at most so many checks
count_row : (f : ℕ → ℕ) (row : List ℕ) (n : ℕ) → count_by (λ j. list_any (λ x. f x == j) row) (upto n) ≤ length row
count_row f [] n = omega (arith, count_none (upto n))
count_row f (x ∷ xs) n =
    omega (arith, count_either (λ j. f x == j) (λ j. list_any (λ y. f y == j) xs) (upto n), count_at (λ j. f x == j) (f x) n (λ j e. sym (eqb-true (f x) j e)), count_row f xs n)

pub few_checks : (r : Rows) (b : ℕ) → IsRows r → length (checks_of (code_of r) b) ≤ 24
few_checks r b rows =
    let k = information_bits r.shape in
    let n = check_count r.shape in
    elim (cases_lt b k) [
      | inl low ↦ (
          let test : nat_lt b k ≡ true = lt-ltb b k low in
          let row = row_of r (b / r.shape.group) in
          let short = rows.short (b / r.shape.group) (div_below b r.shape.group r.shape.groups rows.shaped.group_some low) in
          rw test (omega (arith, length-filter (λ j. row_gives r j b) (upto n), count_row (λ x. (x + b % r.shape.group * r.shape.q) % check_count r.shape) row n))
          )
      | inr high ↦ (
          let test : nat_lt b k ≡ false = le-ltb b k high in
          let here = count_at (λ j. b == k + j) (b - k) n (λ j e. (let e' = eqb-true b (k + j) e in omega arith)) in
          let next = count_at (λ j. b + 1 == k + j) (b + 1 - k) n (λ j e. (let e' = eqb-true (b + 1) (k + j) e in omega arith)) in
          rw test (omega (arith, length-filter (λ j. (b == k + j) || (b + 1 == k + j)) (upto n), count_either (λ j. b == k + j) (λ j. b + 1 == k + j) (upto n), here, next))
          )
    ]

pub few_edges : (r : Rows) (b : ℕ) → IsRows r → length (edges_at (code_of r) b) ≤ 24
few_edges r b rows =
    omega (arith, length-map (checks_of (code_of r) b) (λ j. edge_of (code_of r) j b), few_checks r b rows)
