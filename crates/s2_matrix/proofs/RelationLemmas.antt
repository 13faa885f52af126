-- The test and the relation of membership say the same.
use Rattle.std.proofs.Common.{◌≡◌, ℕ, suc, ◌+◌, ◌*◌, ◌/◌, ◌%◌, ◌<◌, ◌≤◌, ◌==◌, ◌||◌, nat_lt, Bool, true, false, Contains, List, [], ◌∷◌, length, get_or, inl, inr, refl, ap, ap₂, ◌∙◌, arith, eq-eqb, eqb-true, lt-ltb, le-ltb, mul-le-mul_left}
use Rattle.std.specs.List.{list_any}
use Rattle.std.proofs.lemmas.Bool.{cases_lt, or_cases, or_left, or_right}
use Rattle.std.proofs.lemmas.Nat.{div-mul-add, mod-mul-add}
use Rattle.std.proofs.lemmas.List.Elements.{Contains-get_or}
use Rattle.std.proofs.lemmas.List.Recursion.{or_at}
use Rattle.s2_mode.specs.Shape.{information_bits, check_count}
use Rattle.s2_rows.specs.Rows.{Rows}
use Rattle.s2_matrix.specs.Code.{row_gives, is_member}
use Rattle.s2_matrix.specs.Relation.{IsMember, by_row, parity, next, MemberLaw}
use Rattle.s2_matrix.proofs.Joins.{div_below}

-- an element that passes
pub found : (p : ℕ → Bool) (xs : List ℕ) → list_any p xs ≡ true → (k : ℕ) × (k < length xs) × (p (get_or xs k 0) ≡ true)
found p [] e = cc
found p (x ∷ xs) e =
    elim (or_cases (p x) (list_any p xs) e) [
      | inl here ↦ (0, omega arith, here)
      | inr there ↦ (let more = found p xs there in (suc more.0, omega arith, more.2))
    ]

pub passes : (p : ℕ → Bool) (xs : List ℕ) (x : ℕ) → Contains xs x → p x ≡ true → list_any p xs ≡ true
passes p xs x c e = or_at (list_any p) p refl (λ _ _. refl) xs c.0 x c.1 (ap p c.2 ∙ e)

to_relation : (r : Rows) (j b : ℕ) → 1 ≤ r.shape.group → is_member r j b ≡ true → IsMember r j b
to_relation r j b pos e =
    let k = information_bits r.shape in
    elim (cases_lt b k) [
      | inl low ↦ (
          let test : nat_lt b k ≡ true = lt-ltb b k low in
          let gives : row_gives r j b ≡ true = rw test at e in
          let p = λ (x : ℕ). (x + b % r.shape.group * r.shape.q) % check_count r.shape == j in
          let row = get_or r.rows (b / r.shape.group) [] in
          let at = found p row gives in
          let x = get_or row at.0 0 in
          let whole : b ≡ b / r.shape.group * r.shape.group + b % r.shape.group = omega arith in
          by_row (b / r.shape.group) (b % r.shape.group) x (div_below b r.shape.group r.shape.groups pos low) (omega arith) (Contains-get_or row at.0 0 at.1) whole (eqb-true ((x + b % r.shape.group * r.shape.q) % check_count r.shape) j at.2)
          )
      | inr high ↦ (
          let test : nat_lt b k ≡ false = le-ltb b k high in
          let either : ((b == k + j) || (b + 1 == k + j)) ≡ true = rw test at e in
          elim (or_cases (b == k + j) (b + 1 == k + j) either) [
            | inl here ↦ parity (eqb-true b (k + j) here)
            | inr before ↦ next high (eqb-true (b + 1) (k + j) before)
          ]
          )
    ]

to_test : (r : Rows) (j b : ℕ) → 1 ≤ r.shape.group → IsMember r j b → is_member r j b ≡ true
to_test r j b pos (by_row g m x low place at is gives) =
    let k = information_bits r.shape in
    let group = r.shape.group in
    let div : b / group ≡ g = ap (λ n. n / group) is ∙ div-mul-add g group m place in
    let place_is : b % group ≡ m = ap (λ n. n % group) is ∙ mod-mul-add g group m place in
    let below : b < k = (let big = mul-le-mul_left group low in omega (arith, big)) in
    let test : nat_lt b k ≡ true = lt-ltb b k below in
    let p = λ (y : ℕ). (y + m * r.shape.q) % check_count r.shape == j in
    let passed = passes p (get_or r.rows g []) x at (eq-eqb ((x + m * r.shape.q) % check_count r.shape) j gives) in
    rw test (ap₂ (λ g' m'. list_any (λ y. (y + m' * r.shape.q) % check_count r.shape == j) (get_or r.rows g' [])) div place_is ∙ passed)
to_test r j b pos (parity is) =
    let k = information_bits r.shape in
    let test : nat_lt b k ≡ false = le-ltb b k (omega arith) in
    rw test (or_left (b == k + j) (b + 1 == k + j) (eq-eqb b (k + j) is))
to_test r j b pos (next high is) =
    let k = information_bits r.shape in
    let test : nat_lt b k ≡ false = le-ltb b k high in
    rw test (or_right (b == k + j) (b + 1 == k + j) (eq-eqb (b + 1) (k + j) is))

pub member_lem : MemberLaw
member_lem r j b pos = (to_relation r j b pos, to_test r j b pos)
