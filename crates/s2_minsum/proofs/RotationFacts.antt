-- A check's members are those of its layer's last check, each moved in its row.
use Rattle.std.proofs.Common.{◌≡◌, ◌⊎◌, ◌≢◌, ℕ, zero, suc, ◌+◌, ◌-◌, ◌*◌, ◌/◌, ◌%◌, ◌<◌, ◌≤◌, ◌==◌, ◌||◌, Bool, true, false, nat_lt, eqb, refl, ap, sym, ◌∙◌, inl, inr, arith, lt-ltb, le-ltb, eq-eqb, ne_eqb}
use Rattle.std.specs.List.{list_any}
use Rattle.std.proofs.Math.Nat.{mul-le-mul_right, mod-eq_of_lt, add-mul-div_right, add-mul-mod_self_right}
use Rattle.std.proofs.Math.Arith.{mod-mul}
use Rattle.std.proofs.lemmas.Nat.{mod-mul-add, div-mul-add, div-add-mod'}
use Rattle.std.proofs.lemmas.Bool.{cases_lt, cases_eq, eqb-true}
use Rattle.s2_mode.specs.Shape.{IsShape, information_bits, check_count, code_bits}
use Rattle.s2_rows.specs.Rows.{Rows, row_of}
use Rattle.s2_matrix.specs.Code.{is_member}
use Rattle.s2_minsum.specs.Layout.{row_of_bit, lane_of_bit, bit_of, last_check, forth, back}
use Rattle.s2_minsum.proofs.Places

pub same_tests : (a b c d : ℕ) → (a ≡ b → c ≡ d) → (c ≡ d → a ≡ b) → eqb a b ≡ eqb c d
same_tests a b c d to from = elim (cases_eq a b) [
  | inl same ↦ eq-eqb a b same ∙ sym (eq-eqb c d (to same))
  | inr other ↦ ne_eqb a b other ∙ sym (ne_eqb c d (λ same. other (from same)))
]

-- two digits
pub digits : (q a l r c : ℕ) → a < q → r < q → a + l * q ≡ r + c * q → (a ≡ r) × (l ≡ c)
digits q a l r c low small same =
    let flip : l * q + a ≡ c * q + r = omega arith in
    (sym (mod-mul-add l q a low) ∙ ap (λ x. x % q) flip ∙ mod-mul-add c q r small, sym (div-mul-add l q a low) ∙ ap (λ x. x / q) flip ∙ div-mul-add c q r small)

split : (n q x l : ℕ) → 1 ≤ n → 1 ≤ q → (x + l * q) % (n * q) ≡ x % q + (x / q + l) % n * q
split n q x l some some' =
    let one = mod-mul (x + l * q) {m = n} {c = q} some some' in
    let two : (x + l * q) / q ≡ x / q + l = add-mul-div_right x l some' in
    let three : (x + l * q) % q ≡ x % q = add-mul-mod_self_right x l q in
    one ∙ (λ i. two i % n * q + three i) ∙ omega arith

shorter : (n x l : ℕ) → (x + l) % n ≡ (x % n + l) % n
shorter n x l =
    let e : x + l ≡ x % n + l + x / n * n = omega (arith, div-add-mod' x n) in
    ap (λ v. v % n) e ∙ add-mul-mod_self_right (x % n + l) (x / n) n

-- a lane below n in two cases
pub lane_cases : (n v : ℕ) → v < n + n → ((v < n) × (v % n ≡ v)) ⊎ ((n ≤ v) × (v % n ≡ v - n))
lane_cases n v small = elim (cases_lt v n) [
  | inl lt ↦ inl (lt, mod-eq_of_lt lt)
  | inr le ↦ inr (le, Places.around n v le small)
]

turn_to : (n x l c : ℕ) → l < n → c < n → (x + (l + 1 + c) % n) % n ≡ c → (x + l) % n ≡ n - 1
turn_to n x l c low small is =
    let y = x % n in
    let some : 1 ≤ n = omega arith in
    let below : y < n = omega arith in
    let a = shorter n x ((l + 1 + c) % n) in
    let b = shorter n x l in
    elim (lane_cases n (l + 1 + c) (omega arith)) [
      | inl one ↦ elim (lane_cases n (y + (l + 1 + c) % n) (omega arith)) [
        | inl two ↦ absurd (omega (arith, a, one.1, two.1))
        | inr two ↦ b ∙ (let e : y + l ≡ n - 1 = omega (arith, a, one.1, two.1, two.0) in ap (λ v. v % n) e ∙ mod-eq_of_lt (omega arith))
      ]
      | inr one ↦ elim (lane_cases n (y + (l + 1 + c) % n) (omega arith)) [
        | inl two ↦ b ∙ (let e : y + l ≡ n - 1 = omega (arith, a, one.1, one.0, two.1) in ap (λ v. v % n) e ∙ mod-eq_of_lt (omega arith))
        | inr two ↦ absurd (omega (arith, a, one.1, one.0, two.0, two.1))
      ]
    ]

turn_from : (n x l c : ℕ) → l < n → c < n → (x + l) % n ≡ n - 1 → (x + (l + 1 + c) % n) % n ≡ c
turn_from n x l c low small is =
    let y = x % n in
    let some : 1 ≤ n = omega arith in
    let below : y < n = omega arith in
    let a = shorter n x ((l + 1 + c) % n) in
    let b = shorter n x l in
    let sum : y + l ≡ n - 1 = elim (lane_cases n (y + l) (omega arith)) [ inl two ↦ omega (arith, b, two.1) | inr two ↦ absurd (omega (arith, b, two.1, two.0)) ] in
    a ∙ elim (lane_cases n (l + 1 + c) (omega arith)) [
      | inl one ↦ (let e : y + (l + 1 + c) % n ≡ n + c = omega (arith, one.1) in ap (λ v. v % n) e ∙ Places.around n (n + c) (omega arith) (omega arith) ∙ omega arith)
      | inr one ↦ (let e : y + (l + 1 + c) % n ≡ c = omega (arith, one.1, one.0) in ap (λ v. v % n) e ∙ mod-eq_of_lt small)
    ]

-- an address gives check r + c q a lane exactly where it gives the last check the lane before it
address : (n q x l r c : ℕ) → 1 ≤ n → r < q → l < n → c < n → eqb ((x + (l + 1 + c) % n * q) % (n * q)) (r + c * q) ≡ eqb ((x + l * q) % (n * q)) (r + (n - 1) * q)
address n q x l r c some low small small' =
    let some' : 1 ≤ q = omega arith in
    let rest : x % q < q = omega arith in
    let here = split n q x ((l + 1 + c) % n) some some' in
    let there = split n q x l some some' in
    same_tests ((x + (l + 1 + c) % n * q) % (n * q)) (r + c * q) ((x + l * q) % (n * q)) (r + (n - 1) * q)
    (λ e.
    let both = digits q (x % q) ((x / q + (l + 1 + c) % n) % n) r c rest low (sym here ∙ e) in
    there ∙ (λ i. both.0 i + turn_to n (x / q) l c small small' both.1 i * q))
    (λ e.
    let both = digits q (x % q) ((x / q + l) % n) r (n - 1) rest low (sym there ∙ e) in
    here ∙ (λ i. both.0 i + turn_from n (x / q) l c small small' both.1 i * q))

or_left : (a b : Bool) → a ≡ true → (a || b) ≡ true
or_left a b h = rw h refl

or_right : (a b : Bool) → b ≡ true → (a || b) ≡ true
or_right true b h = refl
or_right false b h = h

or_parts : (a b : Bool) → (a || b) ≡ true → (a ≡ true) ⊎ (b ≡ true)
or_parts true b h = inl refl
or_parts false b h = inr h

rotated_last : (n lane c : ℕ) → lane ≡ n - 1 → c < n → (lane + 1 + c) % n ≡ c
rotated_last n lane c is small =
    let e : lane + 1 + c ≡ n + c = omega arith in
    ap (λ v. v % n) e ∙ Places.around n (n + c) (omega arith) (omega arith) ∙ omega arith

rotated_before : (n lane c : ℕ) → lane + 1 ≡ n - 1 → c ≢ 0 → c < n → (lane + 1 + c) % n ≡ c - 1
rotated_before n lane c is some small =
    let e : lane + 1 + c ≡ n + (c - 1) = omega arith in
    ap (λ v. v % n) e ∙ Places.around n (n + (c - 1)) (omega arith) (omega arith) ∙ omega arith

was_last : (n lane c : ℕ) → lane < n → c < n → (lane + 1 + c) % n ≡ c → lane ≡ n - 1
was_last n lane c low small is = elim (lane_cases n (lane + 1 + c) (omega arith)) [
  | inl one ↦ absurd (omega (arith, one.1))
  | inr one ↦ omega (arith, one.1, one.0)
]

was_before : (n lane c : ℕ) → lane < n → c < n → (lane + 1 + c) % n + 1 ≡ c → lane + 1 ≡ n - 1
was_before n lane c low small is = elim (lane_cases n (lane + 1 + c) (omega arith)) [
  | inl one ↦ absurd (omega (arith, one.1))
  | inr one ↦ omega (arith, one.1, one.0)
]

one_less : (c q : ℕ) → c ≢ 0 → (c - 1) * q + q ≡ c * q
one_less zero q some = absurd (some refl)
one_less (suc c) q some =
    let e : suc c - 1 ≡ c = omega arith in
    omega (arith, ap (λ x. x * q) e)

module _ (rows : Rows) (shaped : IsShape rows.shape) where
  pub in_info : (j row lane : ℕ) → row < rows.shape.groups → lane < rows.shape.group → is_member rows j (bit_of rows.shape row lane) ≡ list_any (λ x. (x + lane * rows.shape.q) % check_count rows.shape == j) (row_of rows row)
  in_info j row lane lt l =
      let b = row * rows.shape.group + lane in
      let here : nat_lt row rows.shape.groups ≡ true = lt-ltb row rows.shape.groups lt in
      let low : nat_lt b (information_bits rows.shape) ≡ true = lt-ltb b (information_bits rows.shape) (Places.bit_low rows.shape shaped row lane lt l) in
      let div = div-mul-add row rows.shape.group lane l in
      let mod' = mod-mul-add row rows.shape.group lane l in
      rw (here, low) (λ i. list_any (λ x. (x + mod' i * rows.shape.q) % check_count rows.shape == j) (row_of rows (div i)))

  pub in_parity : (j row lane : ℕ) → rows.shape.groups ≤ row → is_member rows j (bit_of rows.shape row lane) ≡ ((row - rows.shape.groups + lane * rows.shape.q == j) || (row - rows.shape.groups + lane * rows.shape.q + 1 == j))
  in_parity j row lane le =
      let k = information_bits rows.shape in
      let v = row - rows.shape.groups + lane * rows.shape.q in
      let here : nat_lt row rows.shape.groups ≡ false = le-ltb row rows.shape.groups le in
      let high : nat_lt (k + v) k ≡ false = le-ltb (k + v) k (omega arith) in
      let one = same_tests (k + v) (k + j) v j (λ e. omega arith) (λ e. omega arith) in
      let two = same_tests (k + v + 1) (k + j) (v + 1) j (λ e. omega arith) (λ e. omega arith) in
      rw (here, high) (λ i. one i || two i)

  module _ (r c : ℕ) (layer : r < rows.shape.q) (small : c < rows.shape.group) where
    -- moved in a row of information bits
    moved_info : (row lane : ℕ) → row < rows.shape.groups → lane < rows.shape.group → is_member rows (r + c * rows.shape.q) (bit_of rows.shape row ((lane + 1 + c) % rows.shape.group)) ≡ is_member rows (last_check rows.shape r) (bit_of rows.shape row lane)
    moved_info row lane lt l =
        let n = rows.shape.group in
        let some = shaped.group_some in
        let rotated' : (lane + 1 + c) % n < n = omega arith in
        in_info (r + c * rows.shape.q) row ((lane + 1 + c) % n) lt rotated'
        ∙ ap (λ test. list_any test (row_of rows row)) (λ i x. address n rows.shape.q x lane r c some layer l small i)
        ∙ sym (in_info (last_check rows.shape r) row lane lt l)

    -- moved to a check's lane from the last check, in a plane of parity bits
    pub moved_forth : (row lane : ℕ) → rows.shape.groups ≤ row → row < rows.shape.groups + rows.shape.q → lane < rows.shape.group → is_member rows (last_check rows.shape r) (bit_of rows.shape row lane) ≡ true → (r ≡ 0 → c ≡ 0 → row ≡ rows.shape.groups + rows.shape.q - 1 → rows.shape.group - 1 - lane ≡ 1 → ⊥) → is_member rows (r + c * rows.shape.q) (bit_of rows.shape row ((lane + 1 + c) % rows.shape.group)) ≡ true
    moved_forth row lane le high l is present =
        let n = rows.shape.group in
        let q = rows.shape.q in
        let a = row - rows.shape.groups in
        let to = (lane + 1 + c) % n in
        let low : a < q = omega arith in
        in_parity (r + c * q) row to le
        ∙ elim (or_parts (a + lane * q == last_check rows.shape r) (a + lane * q + 1 == last_check rows.shape r) (sym (in_parity (last_check rows.shape r) row lane le) ∙ is)) [
          | inl own ↦ (
              let both = digits q a lane r (n - 1) low layer (eqb-true (a + lane * q) (last_check rows.shape r) own) in
              let at : to ≡ c = rotated_last n lane c both.1 small in
              or_left (a + to * q == r + c * q) (a + to * q + 1 == r + c * q) (eq-eqb (a + to * q) (r + c * q) (λ i. both.0 i + at i * q))
              )
          | inr next ↦ (
              let e = eqb-true (a + lane * q + 1) (last_check rows.shape r) next in
              or_right (a + to * q == r + c * q) (a + to * q + 1 == r + c * q) (eq-eqb (a + to * q + 1) (r + c * q) (elim (cases_lt (a + 1) q) [
                | inl inside ↦ (
                    let both = digits q (a + 1) lane r (n - 1) inside layer (omega arith) in
                    let at : to ≡ c = rotated_last n lane c both.1 small in
                    omega (arith, ap (λ x. x * q) at, both.0)
                    )
                | inr edge ↦ (
                    let both = digits q 0 (lane + 1) r (n - 1) (omega arith) layer (omega arith) in
                    let some : c ≢ 0 = λ none. present (sym both.0) none (omega arith) (omega (arith, both.1)) in
                    let at : to ≡ c - 1 = rotated_before n lane c both.1 some small in
                    let whole : (c - 1) * q + q ≡ c * q = omega (arith, one_less c q some) in
                    omega (arith, ap (λ x. x * q) at, both.0, whole)
                    )
              ]))
              )
        ]

    moved_back : (row lane : ℕ) → rows.shape.groups ≤ row → row < rows.shape.groups + rows.shape.q → lane < rows.shape.group → is_member rows (r + c * rows.shape.q) (bit_of rows.shape row ((lane + 1 + c) % rows.shape.group)) ≡ true → is_member rows (last_check rows.shape r) (bit_of rows.shape row lane) ≡ true
    moved_back row lane le high l is =
        let n = rows.shape.group in
        let q = rows.shape.q in
        let a = row - rows.shape.groups in
        let to = (lane + 1 + c) % n in
        let low : a < q = omega arith in
        let some = shaped.group_some in
        let last = last_check rows.shape r in
        in_parity last row lane le
        ∙ elim (or_parts (a + to * q == r + c * q) (a + to * q + 1 == r + c * q) (sym (in_parity (r + c * q) row to le) ∙ is)) [
          | inl own ↦ (
              let both = digits q a to r c low layer (eqb-true (a + to * q) (r + c * q) own) in
              let at : lane ≡ n - 1 = was_last n lane c l small both.1 in
              or_left (a + lane * q == last) (a + lane * q + 1 == last) (eq-eqb (a + lane * q) last (λ i. both.0 i + at i * q))
              )
          | inr next ↦ (
              let e = eqb-true (a + to * q + 1) (r + c * q) next in
              or_right (a + lane * q == last) (a + lane * q + 1 == last) (eq-eqb (a + lane * q + 1) last (elim (cases_lt (a + 1) q) [
                | inl inside ↦ (
                    let both = digits q (a + 1) to r c inside layer (omega arith) in
                    let at : lane ≡ n - 1 = was_last n lane c l small both.1 in
                    omega (arith, ap (λ x. x * q) at, both.0)
                    )
                | inr edge ↦ (
                    let both = digits q 0 (to + 1) r c (omega arith) layer (omega arith) in
                    let at : lane + 1 ≡ n - 1 = was_before n lane c l small both.1 in
                    omega (arith, ap (λ x. x * q) at, both.0)
                    )
              ]))
              )
        ]

    pub has_forth : (b : ℕ) → b < code_bits rows.shape → is_member rows (last_check rows.shape r) b ≡ true → (r ≡ 0 → c ≡ 0 → row_of_bit rows.shape b ≡ rows.shape.groups + rows.shape.q - 1 → rows.shape.group - 1 - lane_of_bit rows.shape b ≡ 1 → ⊥) → is_member rows (r + c * rows.shape.q) (forth rows.shape c b) ≡ true
    has_forth b low is present =
        let row = row_of_bit rows.shape b in
        let lane = lane_of_bit rows.shape b in
        let again = Places.bit_again rows.shape shaped b low in
        let is' = ap (is_member rows (last_check rows.shape r)) again ∙ is in
        let l = Places.lane_below rows.shape shaped b low in
        elim (cases_lt row rows.shape.groups) [
          | inl lt ↦ moved_info row lane lt l ∙ is'
          | inr le ↦ moved_forth row lane le (Places.row_below rows.shape shaped b low) l is' present
        ]

    pub has_back : (i : ℕ) → i < code_bits rows.shape → is_member rows (r + c * rows.shape.q) i ≡ true → is_member rows (last_check rows.shape r) (back rows.shape c i) ≡ true
    has_back i low is =
        let n = rows.shape.group in
        let row = row_of_bit rows.shape i in
        let lane = lane_of_bit rows.shape i in
        let before = (lane + n - 1 - c) % n in
        let some = shaped.group_some in
        let l = Places.lane_below rows.shape shaped i low in
        let below : before < n = omega arith in
        let round = Places.turn_round n lane c l small in
        let is' = ap (λ x. is_member rows (r + c * rows.shape.q) (bit_of rows.shape row x)) round ∙ ap (is_member rows (r + c * rows.shape.q)) (Places.bit_again rows.shape shaped i low) ∙ is in
        elim (cases_lt row rows.shape.groups) [
          | inl lt ↦ sym (moved_info row before lt below) ∙ is'
          | inr le ↦ moved_back row before le (Places.row_below rows.shape shaped i low) below is'
        ]

  -- the first check lacks the bit before its own
  pub has_absent : (b : ℕ) → b < code_bits rows.shape → row_of_bit rows.shape b ≡ rows.shape.groups + rows.shape.q - 1 → rows.shape.group - 1 - lane_of_bit rows.shape b ≡ 1 → is_member rows 0 (forth rows.shape 0 b) ≡ false
  has_absent b low at turn =
      let n = rows.shape.group in
      let q = rows.shape.q in
      let row = row_of_bit rows.shape b in
      let lane = lane_of_bit rows.shape b in
      let to = (lane + 1 + 0) % n in
      let some = shaped.q_some in
      let l = Places.lane_below rows.shape shaped b low in
      let to_is : to ≡ n - 1 = (let e : lane + 1 + 0 ≡ n - 1 = omega arith in ap (λ v. v % n) e ∙ mod-eq_of_lt (omega arith)) in
      let many : 1 * q ≤ (n - 1) * q = mul-le-mul_right q (omega arith) in
      let rotated' = ap (λ x. x * q) to_is in
      in_parity 0 row to (omega arith)
      ∙ (λ i. ne_eqb (row - rows.shape.groups + to * q) 0 (λ e. omega (arith, many, rotated')) i || ne_eqb (row - rows.shape.groups + to * q + 1) 0 (λ e. omega arith) i)
