-- What the rows and the accumulator say of a check and a bit.
use Rattle.std.proofs.Common.{◌≡◌, ℕ, ◌+◌, ◌*◌, ◌/◌, ◌%◌, ◌<◌, ◌≤◌, ◌==◌, ◌||◌, true, false, List, length, get_or, take, inl, inr, refl, sym, ap, ◌∙◌, arith, ne_eqb, mul-le-mul_left, nat_lt, lt-ltb, le-ltb, ap₂, get_or-take, length-take-le}
use Rattle.std.specs.List.{list_any}
use Rattle.std.proofs.lemmas.Bool.{cases_lt, eqb-true}
use Rattle.std.proofs.lemmas.List.{take_more}
use Rattle.std.proofs.lemmas.List.Recursion.{or_push, or_from_places}
use Rattle.s2_rows.specs.Rows.{AreAddresses}
use Rattle.s2_mode.specs.Shape.{information_bits}
use Rattle.s2_rows.specs.Rows.{Rows}
use Rattle.s2_matrix.specs.Code.{code_of, row_gives}
use Rattle.std.proofs.lemmas.Bool.Decides.{nat_tests}

mod_cancel_lt : (a b t c : ℕ) → a < b → b < c → (a + t) % c ≡ (b + t) % c → ⊥
mod_cancel_lt a b t c less h e =
    let p = (a + t) / c in
    let q = (b + t) / c in
    elim (cases_lt p q) [
      | inl up ↦ (let big = mul-le-mul_left c up in omega (arith, big))
      | inr down ↦ (let big = mul-le-mul_left c down in omega (arith, big))
    ]

pub mod_cancel : (a b t c : ℕ) → a < c → b < c → (a + t) % c ≡ (b + t) % c → a ≡ b
mod_cancel a b t c ha hb e =
    elim (cases_lt a b) [
      | inl less ↦ absurd (mod_cancel_lt a b t c less hb e)
      | inr le ↦ elim (cases_lt b a) [ inl more ↦ absurd (mod_cancel_lt b a t c more ha (sym e)) | inr ge ↦ omega arith ]
    ]

-- the test of a row, one address on
pub row_more : (row : List ℕ) (i turn c j : ℕ) → i < length row → list_any (λ x. (x + turn) % c == j) (take (i + 1) row) ≡ (list_any (λ x. (x + turn) % c == j) (take i row) || ((get_or row i 0 + turn) % c == j))
row_more row i turn c j h =
    let p = λ (x : ℕ). (x + turn) % c == j in
    ap (list_any p) (take_more row i 0 h) ∙ or_push (list_any p) p refl (λ _ _. refl) (take i row) (get_or row i 0)

-- no earlier address gives the same check
pub row_apart : (row : List ℕ) (i turn c j : ℕ) → i < length row → AreAddresses c row → ((get_or row i 0 + turn) % c == j) ≡ true → list_any (λ x. (x + turn) % c == j) (take i row) ≡ false
row_apart row i turn c j h addresses test =
    let p = λ (x : ℕ). (x + turn) % c == j in
    let at = eqb-true ((get_or row i 0 + turn) % c) j test in
    let short : length (take i row) ≡ i = length-take-le i row (omega arith) in
    or_from_places (list_any p) p refl (λ _ _. refl) (take i row) 0 (λ k less. (
    let low : k < i = omega arith in
    let within : k < length row = omega arith in
    rw get_or-take (ne_eqb ((get_or row k 0 + turn) % c) j (λ same. addresses.apart k i 0 low h (mod_cancel (get_or row k 0) (get_or row i 0) turn c (addresses.below k 0 within) (addresses.below i 0 h) (same ∙ sym at))))
    ))

-- a parity bit's checks
pub parity_has : (r : Rows) (check j : ℕ) → (code_of r).has j (information_bits r.shape + check) ≡ ((check == j) || (check + 1 == j))
parity_has r check j =
    let k = information_bits r.shape in
    let past : nat_lt (k + check) k ≡ false = le-ltb (k + check) k (omega arith) in
    let here : (k + check == k + j) ≡ (check == j) = grind (arith, nat_tests) in
    let next : (k + check + 1 == k + j) ≡ (check + 1 == j) = grind (arith, nat_tests) in
    rw past (ap₂ ◌||◌ here next)

pub info_has : (r : Rows) (bit j : ℕ) → bit < information_bits r.shape → (code_of r).has j bit ≡ row_gives r j bit
info_has r bit j h = let low : nat_lt bit (information_bits r.shape) ≡ true = lt-ltb bit (information_bits r.shape) h in rw low refl

pub div_below : (b n m : ℕ) → 1 ≤ n → b < n * m → b / n < m
div_below b n m pos h =
    elim (cases_lt (b / n) m) [
      | inl less ↦ less
      | inr more ↦ (let big = mul-le-mul_left n more in absurd (omega (arith, big)))
    ]
