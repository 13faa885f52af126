-- The least number and the least of the others, and where the least stands.
use Rattle.std.proofs.Common.{◌≡◌, ◌≢◌, ℕ, zero, suc, ◌<◌, ◌≤◌, min, cond, eq-eqb, ne_eqb, ap, sym, ◌∙◌, inl, inr, arith}
use Rattle.std.proofs.lemmas.Bool.{cases_lt, cases_eq}
use Rattle.s2_settle.specs.Rests.{seen_at}
use Rattle.s2_settle.specs.Nodes.{min1_of, min2_of, least_at}

stays : (at first x e : ℕ) → first ≤ x → seen_at at first x e ≡ at
stays at first x e le = ap (λ b. cond b at e) (eq-eqb (min first x) first (omega arith))

moves_on : (at first x e : ℕ) → x < first → seen_at at first x e ≡ e
moves_on at first x e lt = ap (λ b. cond b at e) (ne_eqb (min first x) first (λ same. omega arith))

pub first_le : (f : ℕ → ℕ) (n k : ℕ) → k < n → min1_of f n ≤ f k
first_le f zero k lt = absurd (omega arith)
first_le f (suc n) k lt = elim (cases_eq k n) [
  | inl same ↦ (let e = ap f same in omega (arith, e))
  | inr other ↦ (let rest = first_le f n k (omega arith) in omega (arith, rest))
]

pub first_at : (f : ℕ → ℕ) (n : ℕ) → min1_of f n < 65535 → (least_at f n < n) × (f (least_at f n) ≡ min1_of f n)
first_at f zero some = absurd (omega arith)
first_at f (suc n) some = elim (cases_lt (f n) (min1_of f n)) [
  | inl lt ↦ (
      let at = moves_on (least_at f n) (min1_of f n) (f n) n lt in
      let is : f (least_at f (suc n)) ≡ f n = ap f at in
      (omega (arith, at), omega (arith, is))
      )
  | inr le ↦ (
      let at = stays (least_at f n) (min1_of f n) (f n) n le in
      let is : f (least_at f (suc n)) ≡ f (least_at f n) = ap f at in
      let before = first_at f n (omega arith) in
      (omega (arith, at, before.0), omega (arith, is, before.1))
      )
]

pub second_le : (f : ℕ → ℕ) (n k : ℕ) → k < n → (k ≡ least_at f n → ⊥) → min2_of f n ≤ f k
second_le f zero k lt other = absurd (omega arith)
second_le f (suc n) k lt other = elim (cases_lt (f n) (min1_of f n)) [
  | inl less ↦ (
      let at = moves_on (least_at f n) (min1_of f n) (f n) n less in
      let differs : k ≢ n = λ same. other (same ∙ sym at) in
      let low : k < n = omega arith in
      let first = first_le f n k low in
      omega (arith, first)
      )
  | inr le ↦ (
      let at = stays (least_at f n) (min1_of f n) (f n) n le in
      elim (cases_eq k n) [
        | inl same ↦ (let e = ap f same in omega (arith, e))
        | inr more ↦ (let rest = second_le f n k (omega arith) (λ same. other (same ∙ sym at)) in omega (arith, rest))
      ]
      )
]
