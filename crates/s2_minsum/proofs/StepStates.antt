-- The states between the entries of a layer: the messages of the entries below e are replaced.
use Rattle.std.proofs.Common.{◌≡◌, ◌≢◌, ℕ, ◌+◌, ◌-◌, ◌*◌, ◌/◌, ◌%◌, ◌<◌, ◌≤◌, ◌==◌, ◌&&◌, nat_lt, true, false, cond, List, length, get_or, ℤ, pos, ◌+ℤ◌, ◌-ℤ◌, eqb, refl, ap, sym, ◌∙◌, inl, inr, arith, eq-eqb, ne_eqb, lt-ltb, le-ltb}
use Rattle.std.specs.List.{position_or_len}
use Rattle.std.proofs.Math.Nat.{mod-eq_of_lt, mul-le-mul_right}
use Rattle.std.proofs.lemmas.Bool.{cases_Bool, cases_eq, and_from, and_parts}
use Rattle.std.proofs.lemmas.Bool.Decides.{nat_tests}
use Rattle.std.proofs.lemmas.Nat.{mod-mul-add, div-mul-add, div-add-mod'}
use Rattle.std.proofs.lemmas.Int.{ints}
use Rattle.s2_mode.specs.Shape.{IsShape, code_bits, check_count}
use Rattle.s2_rows.specs.Rows.{Rows}
use Rattle.s2_matrix.specs.Code.{Code, code_of, members, is_member}
use Rattle.s2_matrix.proofs.Members.{members_rising, place_of}
use Rattle.s2_matrix.proofs.Joins.{div_below}
use Rattle.s2_minsum.specs.Plain.{is_edge, posterior}
use Rattle.s2_bits.specs.Lanes16.{signed16}
use Rattle.s2_minsum.specs.Rows.{is_lacking}
use Rattle.s2_minsum.specs.Layout.{row_of_bit, lane_of_bit, bit_of, last_check, forth, back, entry_of, place_at, message_of, state_of, lacked_row}
use Rattle.s2_minsum.proofs.Places
use Rattle.s2_minsum.proofs.Columns.{found, member_below, member_has, lacks, present, place_in}
use Rattle.s2_minsum.proofs.RotationFacts.{lane_cases}
use Rattle.s2_minsum.proofs.Posteriors.{posterior_same, posterior_change}

-- what is kept once the entries of layer r below e are replaced
abbrev pub replaced : (ℕ → ℕ → ℕ → ℕ) → (ℕ → ℕ → ℕ) → ℕ → ℕ → ℕ → ℕ → ℕ → ℕ
replaced kept new r n r' e c = cond ((r' == r) && nat_lt e n) (new e c) (kept r' e c)

-- the lane of a check in which an entry shows a lane of its row, and the lane that the last check has there
pub lane_back_to : (n l m : ℕ) → l < n → m < n → (l + n - 1 - (l + (n - 1 - m)) % n) % n ≡ m
lane_back_to n l m low small = elim (lane_cases n (l + (n - 1 - m)) (omega arith)) [
  | inl one ↦ (let e : l + n - 1 - (l + (n - 1 - m)) % n ≡ m = omega (arith, one.1, one.0) in ap (λ v. v % n) e ∙ mod-eq_of_lt small)
  | inr one ↦ (let e : l + n - 1 - (l + (n - 1 - m)) % n ≡ n + m = omega (arith, one.1, one.0) in ap (λ v. v % n) e ∙ Places.around n (n + m) (omega arith) (omega arith) ∙ omega arith)
]

pub lane_of_check : (n l c : ℕ) → l < n → c < n → (l + (n - 1 - (l + n - 1 - c) % n)) % n ≡ c
lane_of_check n l c low small = elim (lane_cases n (l + n - 1 - c) (omega arith)) [
  | inl one ↦ (let e : l + (n - 1 - (l + n - 1 - c) % n) ≡ c = omega (arith, one.1, one.0) in ap (λ v. v % n) e ∙ mod-eq_of_lt small)
  | inr one ↦ (let e : l + (n - 1 - (l + n - 1 - c) % n) ≡ n + c = omega (arith, one.1, one.0) in ap (λ v. v % n) e ∙ Places.around n (n + c) (omega arith) (omega arith) ∙ omega arith)
]

pub edge_parts : (code : Code) (j i : ℕ) → is_edge code j i ≡ true → (j < code.checks) × ((i < code.bits) × (code.has j i ≡ true))
edge_parts code j i edge =
    let parts = and_parts (nat_lt j code.checks) (nat_lt i code.bits && code.has j i) edge in
    let parts' = and_parts (nat_lt i code.bits) (code.has j i) parts.1 in
    let h : j < code.checks = grind (arith, nat_tests, parts.0) in
    let low : i < code.bits = grind (arith, nat_tests, parts'.0) in
    (h, (low, parts'.1))

pub is_edge-true : (code : Code) (j i : ℕ) → j < code.checks → i < code.bits → code.has j i ≡ true → is_edge code j i ≡ true
is_edge-true code j i h low has =
    and_from (nat_lt j code.checks) (nat_lt i code.bits && code.has j i) (lt-ltb j code.checks h) (and_from (nat_lt i code.bits) (code.has j i) (lt-ltb i code.bits low) has)

module _ (rows : Rows) (shaped : IsShape rows.shape) (r : ℕ) (layer : r < rows.shape.q) where
  -- a check of the layer by its lane
  pub of_lane : (j : ℕ) → j % rows.shape.q ≡ r → r + j / rows.shape.q * rows.shape.q ≡ j
  of_lane j is = omega (arith, div-add-mod' j rows.shape.q)

  pub lane_of : (c : ℕ) → (r + c * rows.shape.q) / rows.shape.q ≡ c
  lane_of c =
      let e : r + c * rows.shape.q ≡ c * rows.shape.q + r = omega arith in
      ap (λ v. v / rows.shape.q) e ∙ div-mul-add c rows.shape.q r layer

  pub layer_of : (c : ℕ) → (r + c * rows.shape.q) % rows.shape.q ≡ r
  layer_of c =
      let e : r + c * rows.shape.q ≡ c * rows.shape.q + r = omega arith in
      ap (λ v. v % rows.shape.q) e ∙ mod-mul-add c rows.shape.q r layer

  pub lane_small : (j : ℕ) → j < check_count rows.shape → j / rows.shape.q < rows.shape.group
  lane_small j h = div_below j rows.shape.q rows.shape.group shaped.q_some (omega arith)

  -- an edge that stands at entry e is of the entry's row and of this lane
  pub hit : (j i e : ℕ) → is_edge (code_of rows) j i ≡ true → j % rows.shape.q ≡ r → place_at rows j i ≡ e
      → let b = get_or (members (code_of rows) (last_check rows.shape r)) e 0 in (row_of_bit rows.shape b ≡ row_of_bit rows.shape i) × ((lane_of_bit rows.shape i + (rows.shape.group - 1 - lane_of_bit rows.shape b)) % rows.shape.group ≡ j / rows.shape.q)
  hit j i e edge of at =
      let s = rows.shape in
      let code = code_of rows in
      let parts = edge_parts code j i edge in
      let low = parts.1.0 in
      let c = j / s.q in
      let small = lane_small j parts.0 in
      let ms = members code (last_check s r) in
      let has : is_member rows (r + c * s.q) i ≡ true = ap (λ x. is_member rows x i) (of_lane j of) ∙ parts.1.1 in
      let within = place_in rows shaped r layer c small i low has in
      let place : position_or_len (λ m. m == back s c i) ms ≡ e = sym (ap (λ x. position_or_len (λ m. m == back s c i) (members code (last_check s x))) of) ∙ at in
      let is : get_or ms e 0 ≡ back s c i = sym (ap (λ x. get_or ms x 0) place) ∙ found ms (back s c i) within in
      (ap (row_of_bit s) is ∙ Places.row_back s shaped c i low, ap (λ x. (lane_of_bit s i + (s.group - 1 - lane_of_bit s x)) % s.group) is ∙ ap (λ x. (lane_of_bit s i + (s.group - 1 - x)) % s.group) (Places.lane_back s shaped c i low) ∙ lane_of_check s.group (lane_of_bit s i) c (Places.lane_below s shaped i low) small)

  -- the edge of an entry's row and lane stands at the entry
  pub stands : (i e : ℕ) → i < code_bits rows.shape → e < length (members (code_of rows) (last_check rows.shape r))
      → let b = get_or (members (code_of rows) (last_check rows.shape r)) e 0 in let c = (lane_of_bit rows.shape i + (rows.shape.group - 1 - lane_of_bit rows.shape b)) % rows.shape.group in row_of_bit rows.shape b ≡ row_of_bit rows.shape i → (back rows.shape c i ≡ b) × (place_at rows (r + c * rows.shape.q) i ≡ e)
  stands i e low lt same =
      let s = rows.shape in
      let code = code_of rows in
      let ms = members code (last_check s r) in
      let b = get_or ms e 0 in
      let c = (lane_of_bit s i + (s.group - 1 - lane_of_bit s b)) % s.group in
      let b_low = member_below rows shaped r layer e lt in
      let is : back s c i ≡ b = (λ x. bit_of s (sym same x) (lane_back_to s.group (lane_of_bit s i) (lane_of_bit s b) (Places.lane_below s shaped i low) (Places.lane_below s shaped b b_low) x)) ∙ Places.bit_again s shaped b b_low in
      let at : position_or_len (λ m. m == b) ms ≡ e = place_of ms e (members_rising code (last_check s r)) lt in
      (is, (λ x. position_or_len (λ m. m == back s (lane_of c x) i) (members code (last_check s (layer_of c x)))) ∙ ap (λ y. position_or_len (λ m. m == y) ms) is ∙ at)

  module _ (soft : List ℤ) (kept : ℕ → ℕ → ℕ → ℕ) (new : ℕ → ℕ → ℕ) where
    same_message : (e k i : ℕ) → (is_edge (code_of rows) k i ≡ true → k % rows.shape.q ≡ r → place_at rows k i ≡ e → ⊥) → message_of rows (replaced kept new r (e + 1)) k i ≡ message_of rows (replaced kept new r e) k i
    same_message e k i other =
        let p = place_at rows k i in
        let c = k / rows.shape.q in
        let r' = k % rows.shape.q in
        elim (cases_Bool (is_edge (code_of rows) k i)) [
          | inr out ↦ rw out refl
          | inl edge ↦ elim (cases_eq r' r) [
            | inl of ↦ (
                let ne : p ≢ e = other edge of in
                let test : nat_lt p (e + 1) ≡ nat_lt p e = grind (arith, nat_tests) in
                λ x. cond (is_edge (code_of rows) k i) (signed16 (cond ((r' == r) && test x) (new p c) (kept r' p c))) (pos 0)
                )
            | inr apart ↦ (
                let no' : eqb r' r ≡ false = ne_eqb r' r apart in
                rw no' refl
                )
          ]
        ]

    taken : (m k i e c : ℕ) → is_edge (code_of rows) k i ≡ true → k % rows.shape.q ≡ r → k / rows.shape.q ≡ c → place_at rows k i ≡ e → message_of rows (replaced kept new r m) k i ≡ signed16 (cond (nat_lt e m) (new e c) (kept r e c))
    taken m k i e c edge of at place =
        let r_is : eqb r r ≡ true = eq-eqb r r refl in
        (λ x. cond (edge x) (signed16 (cond ((of x == r) && nat_lt (place x) m) (new (place x) (at x)) (kept (of x) (place x) (at x)))) (pos 0))
        ∙ ap (λ t. signed16 (cond (t && nat_lt e m) (new e c) (kept r e c))) r_is

    pub step : (e i : ℕ) → i < code_bits rows.shape → e < length (members (code_of rows) (last_check rows.shape r))
        → let b = get_or (members (code_of rows) (last_check rows.shape r)) e 0 in let c = (lane_of_bit rows.shape i + (rows.shape.group - 1 - lane_of_bit rows.shape b)) % rows.shape.group in
        posterior (code_of rows) (state_of rows soft (replaced kept new r (e + 1))) i ≡ posterior (code_of rows) (state_of rows soft (replaced kept new r e)) i +ℤ cond (row_of_bit rows.shape b == row_of_bit rows.shape i) (cond (is_lacking (lacked_row rows.shape r) (entry_of rows.shape b) c) (pos 0) (signed16 (new e c) -ℤ signed16 (kept r e c))) (pos 0)
    step e i low lt =
        let s = rows.shape in
        let code = code_of rows in
        let b = get_or (members code (last_check s r)) e 0 in
        let c = (lane_of_bit s i + (s.group - 1 - lane_of_bit s b)) % s.group in
        let some = shaped.group_some in
        let small : c < s.group = omega arith in
        let before = state_of rows soft (replaced kept new r e) in
        let after = state_of rows soft (replaced kept new r (e + 1)) in
        let change = signed16 (new e c) -ℤ signed16 (kept r e c) in
        let lacking = is_lacking (lacked_row s r) (entry_of s b) c in
        let b_low = member_below rows shaped r layer e lt in
        elim (cases_eq (row_of_bit s b) (row_of_bit s i)) [
          | inr other ↦ (
              let no' : eqb (row_of_bit s b) (row_of_bit s i) ≡ false = ne_eqb (row_of_bit s b) (row_of_bit s i) other in
              let same = posterior_same code before after i refl (λ k. same_message e k i (λ edge of at. other (hit k i e edge of at).0)) in
              let none : cond (row_of_bit s b == row_of_bit s i) (cond lacking (pos 0) change) (pos 0) ≡ pos 0 = ap (λ t. cond t (cond lacking (pos 0) change) (pos 0)) no' in
              omega (arith, ints, same, none)
              )
          | inl here ↦ (
              let yes' : eqb (row_of_bit s b) (row_of_bit s i) ≡ true = eq-eqb (row_of_bit s b) (row_of_bit s i) here in
              let stood = stands i e low lt here in
              let j = r + c * s.q in
              let forth_is : forth s c b ≡ i = ap (forth s c) (sym stood.0) ∙ Places.forth_back s shaped c i small low in
              let alone : (k : ℕ) → k ≢ j → message_of rows (replaced kept new r (e + 1)) k i ≡ message_of rows (replaced kept new r e) k i = λ k ne. same_message e k i (λ edge of at. ne (sym (of_lane k of) ∙ ap (λ x. r + x * s.q) (sym (hit k i e edge of at).1))) in
              elim (cases_Bool lacking) [
                | inl lack ↦ (
                    let out : is_member rows j i ≡ false = ap (is_member rows j) (sym forth_is) ∙ (lacks rows shaped r layer c small b b_low lack).1.1 in
                    let same = posterior_same code before after i refl (λ k. same_message e k i (λ edge of at.
                    let parts = edge_parts code k i edge in
                    let is_j : k ≡ j = sym (of_lane k of) ∙ ap (λ x. r + x * s.q) (sym (hit k i e edge of at).1) in
                    let e' : true ≡ false = sym parts.1.1 ∙ ap (λ x. is_member rows x i) is_j ∙ out in
                    absurd (cc)))
                    in
                    let none : cond (row_of_bit s b == row_of_bit s i) (cond lacking (pos 0) change) (pos 0) ≡ pos 0 = (λ x. cond (yes' x) (cond (lack x) (pos 0) change) (pos 0)) in
                    omega (arith, ints, same, none)
                    )
                | inr shown ↦ (
                    let has : is_member rows j i ≡ true = ap (is_member rows j) (sym forth_is) ∙ present rows shaped r layer c small b b_low (member_has rows shaped r layer e lt) shown in
                    let more : (c + 1) * s.q ≤ s.group * s.q = mul-le-mul_right s.q (omega arith) in
                    let inside : j < check_count s = omega arith in
                    let edge = is_edge-true code j i inside low has in
                    let changed' = posterior_change code before after j i refl inside has alone in
                    let now : message_of rows (replaced kept new r (e + 1)) j i ≡ signed16 (new e c) = taken (e + 1) j i e c edge (layer_of c) (lane_of c) stood.1 ∙ ap signed16 (ap (λ t. cond t (new e c) (kept r e c)) (lt-ltb e (e + 1) (omega arith))) in
                    let was : message_of rows (replaced kept new r e) j i ≡ signed16 (kept r e c) = taken e j i e c edge (layer_of c) (lane_of c) stood.1 ∙ ap signed16 (ap (λ t. cond t (new e c) (kept r e c)) (le-ltb e e (omega arith))) in
                    let it : cond (row_of_bit s b == row_of_bit s i) (cond lacking (pos 0) change) (pos 0) ≡ change = (λ x. cond (yes' x) (cond (shown x) (pos 0) change) (pos 0)) in
                    omega (arith, ints, changed', now, was, it)
                    )
              ]
              )
        ]
