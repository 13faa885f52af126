-- The member whose number is least.
use Rattle.std.proofs.Common.{◌≡◌, ℕ, zero, suc, ◌<◌, ◌≤◌, ◌==◌, ◌||◌, nat_lt, Bool, true, false, cond, List, [], ◌∷◌, length, get_or, fold, All, refl, inl, inr, arith, eq-eqb, lt-ltb, le-ltb}
use Rattle.std.specs.List.{list_any}
use Rattle.std.proofs.lemmas.Bool.{cases_Bool, cases_lt}
use Rattle.std.proofs.lemmas.List.Elements.{All-head, All-tail}
use Rattle.s2_settle.specs.Plain.{least_of}

module _ (f : ℕ → ℕ) where
  abbrev pub run : ℕ → List ℕ → ℕ
  run k ms = fold (λ k i. cond (nat_lt (f i) (f k)) i k) k ms

  picked : (k i : ℕ) → (f (cond (nat_lt (f i) (f k)) i k) ≤ f k) × (f (cond (nat_lt (f i) (f k)) i k) ≤ f i)
  picked k i = elim (cases_lt (f i) (f k)) [
    | inl lt ↦ (let test = lt-ltb (f i) (f k) lt in rw test (omega arith, omega arith))
    | inr le ↦ (let test = le-ltb (f i) (f k) le in rw test (omega arith, omega arith))
  ]

  run_below : (k : ℕ) (ms : List ℕ) → f (run k ms) ≤ f k
  run_below k [] = omega arith
  run_below k (m ∷ ms) = omega (arith, run_below (cond (nat_lt (f m) (f k)) m k) ms, (picked k m).0)

  run_each : (k : ℕ) (ms : List ℕ) (i : ℕ) → i < length ms → f (run k ms) ≤ f (get_or ms i 0)
  run_each k [] i low = absurd (omega arith)
  run_each k (m ∷ ms) zero low = omega (arith, run_below (cond (nat_lt (f m) (f k)) m k) ms, (picked k m).1)
  run_each k (m ∷ ms) (suc i) low = run_each (cond (nat_lt (f m) (f k)) m k) ms i (omega arith)

  either : (Q : ℕ → Type 0) (b : Bool) (i k : ℕ) → Q i → Q k → Q (cond b i k)
  either Q true i k one two = one
  either Q false i k one two = two

  run_holds : (Q : ℕ → Type 0) (k : ℕ) (ms : List ℕ) → Q k → All Q ms → Q (run k ms)
  run_holds Q k [] here all = here
  run_holds Q k (m ∷ ms) here all = run_holds Q (cond (nat_lt (f m) (f k)) m k) ms (either Q (nat_lt (f m) (f k)) m k (All-head Q m ms all) here) (All-tail Q m ms all)

  pub least_each : (ms : List ℕ) (i : ℕ) → i < length ms → f (least_of f ms) ≤ f (get_or ms i 0)
  least_each [] i low = absurd (omega arith)
  least_each (m ∷ ms) zero low = run_below m ms
  least_each (m ∷ ms) (suc i) low = run_each m ms i (omega arith)

  pub least_holds : (Q : ℕ → Type 0) (ms : List ℕ) → 1 ≤ length ms → All Q ms → Q (least_of f ms)
  least_holds Q [] some all = absurd (omega arith)
  least_holds Q (m ∷ ms) some all = run_holds Q m ms (All-head Q m ms all) (All-tail Q m ms all)

  -- it is one of them
  run_has : (k : ℕ) (ms : List ℕ) → list_any (λ m. m == run k ms) (k ∷ ms) ≡ true
  run_has k [] = (let same = eq-eqb k k refl in rw same refl)
  run_has k (m ∷ ms) = go (nat_lt (f m) (f k)) (run_has m ms) (run_has k ms)
    where
      seen : (a b : Bool) → b ≡ true → (a || b) ≡ true
      seen true b is = refl
      seen false b is = is

      skip : (a b c : Bool) → (a || c) ≡ true → (a || (b || c)) ≡ true
      skip true b c is = refl
      skip false true c is = refl
      skip false false c is = is

      go : (b : Bool) → list_any (λ x. x == run m ms) (m ∷ ms) ≡ true → list_any (λ x. x == run k ms) (k ∷ ms) ≡ true → list_any (λ x. x == run (cond b m k) ms) (k ∷ m ∷ ms) ≡ true
      go true one two = seen (k == run m ms) (list_any (λ x. x == run m ms) (m ∷ ms)) one
      go false one two = skip (k == run k ms) (m == run k ms) (list_any (λ x. x == run k ms) ms) two

  pub least_has : (m : ℕ) (ms : List ℕ) → list_any (λ x. x == least_of f (m ∷ ms)) (m ∷ ms) ≡ true
  least_has m ms = run_has m ms
