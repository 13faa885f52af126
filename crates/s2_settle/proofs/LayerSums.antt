-- A sum over the checks of a bit that are in one layer, entry by entry.
use Rattle.std.proofs.Common.{◌≡◌, ◌≢◌, ℕ, ◌+◌, ◌-◌, ◌*◌, ◌/◌, ◌%◌, ◌<◌, ◌≤◌, ◌==◌, ◌&&◌, nat_lt, Bool, true, false, cond, [], length, get_or, ℤ, pos, ◌+ℤ◌, eqb, refl, ap, sym, ◌∙◌, inl, inr, arith, eq-eqb, ne_eqb, lt-ltb, le-ltb}
use Rattle.std.specs.List.{position_or_len}
use Rattle.std.proofs.Math.Nat.{mul-le-mul_right}
use Rattle.std.proofs.lemmas.Bool.{cases_Bool, cases_eq}
use Rattle.std.proofs.lemmas.Bool.Decides.{nat_tests}
use Rattle.std.proofs.lemmas.Int.{ints}
use Rattle.s2_mode.specs.Shape.{IsShape, code_bits, check_count}
use Rattle.s2_rows.specs.Rows.{Rows}
use Rattle.s2_matrix.specs.Total.{total, upto}
use Rattle.s2_matrix.specs.Code.{code_of, members, checks_of, is_member}
use Rattle.s2_matrix.proofs.Totals.{total-same, total-zero, total-filter, total-within}
use Rattle.s2_minsum.specs.Plain.{State, is_edge, posterior}
use Rattle.s2_minsum.specs.Rows.{is_lacking}
use Rattle.s2_minsum.specs.Layout.{row_of_bit, lane_of_bit, last_check, forth, back, entry_of, entry_count, place_at, lacked_row}
use Rattle.s2_minsum.proofs.Places
use Rattle.s2_minsum.proofs.Columns.{member_below, member_has, lacks, present, place_in}
use Rattle.s2_minsum.proofs.Posteriors.{posterior_same, posterior_change}
use Rattle.s2_minsum.proofs.StepStates.{edge_parts, is_edge-true, of_lane, layer_of, lane_small, hit, stands}

module _ (rows : Rows) (shaped : IsShape rows.shape) (r : ℕ) (layer : r < rows.shape.q) (d : ℕ → ℕ → ℤ) where
  -- what the checks at entries below e add
  abbrev pub part : ℕ → ℕ → ℕ → ℤ
  part e k i = cond (is_edge (code_of rows) k i) (cond ((k % rows.shape.q == r) && nat_lt (place_at rows k i) e) (d k i) (pos 0)) (pos 0)

  abbrev pub parts : ℕ → State
  parts e = record { soft = []; message = part e }

  abbrev pub sum_to : ℕ → ℕ → ℤ
  sum_to e i = posterior (code_of rows) (parts e) i

  same_part : (e k i : ℕ) → (is_edge (code_of rows) k i ≡ true → k % rows.shape.q ≡ r → place_at rows k i ≡ e → ⊥) → part (e + 1) k i ≡ part e k i
  same_part e k i other =
      let p = place_at rows k i in
      let r' = k % rows.shape.q in
      elim (cases_Bool (is_edge (code_of rows) k i)) [
        | inr out ↦ rw out refl
        | inl edge ↦ elim (cases_eq r' r) [
          | inl of ↦ (
              let ne : p ≢ e = other edge of in
              let test : nat_lt p (e + 1) ≡ nat_lt p e = grind (arith, nat_tests) in
              λ x. cond (is_edge (code_of rows) k i) (cond ((r' == r) && test x) (d k i) (pos 0)) (pos 0)
              )
          | inr apart ↦ (
              let no' : eqb r' r ≡ false = ne_eqb r' r apart in
              rw no' refl
              )
        ]
      ]

  taken : (m k i e : ℕ) → is_edge (code_of rows) k i ≡ true → k % rows.shape.q ≡ r → place_at rows k i ≡ e → part m k i ≡ cond (nat_lt e m) (d k i) (pos 0)
  taken m k i e edge of place =
      let r_is : eqb r r ≡ true = eq-eqb r r refl in
      (λ x. cond (edge x) (cond ((of x == r) && nat_lt (place x) m) (d k i) (pos 0)) (pos 0)) ∙ ap (λ t. cond (t && nat_lt e m) (d k i) (pos 0)) r_is

  pub step : (e i : ℕ) → i < code_bits rows.shape → e < length (members (code_of rows) (last_check rows.shape r))
      → let b = get_or (members (code_of rows) (last_check rows.shape r)) e 0 in let c = (lane_of_bit rows.shape i + (rows.shape.group - 1 - lane_of_bit rows.shape b)) % rows.shape.group in
      sum_to (e + 1) i ≡ sum_to e i +ℤ cond (row_of_bit rows.shape b == row_of_bit rows.shape i) (cond (is_lacking (lacked_row rows.shape r) (entry_of rows.shape b) c) (pos 0) (d (r + c * rows.shape.q) i)) (pos 0)
  step e i low lt =
      let s = rows.shape in
      let code = code_of rows in
      let b = get_or (members code (last_check s r)) e 0 in
      let c = (lane_of_bit s i + (s.group - 1 - lane_of_bit s b)) % s.group in
      let some = shaped.group_some in
      let small : c < s.group = omega arith in
      let before = parts e in
      let after = parts (e + 1) in
      let j = r + c * s.q in
      let lacking = is_lacking (lacked_row s r) (entry_of s b) c in
      let b_low = member_below rows shaped r layer e lt in
      elim (cases_eq (row_of_bit s b) (row_of_bit s i)) [
        | inr other ↦ (
            let no' : eqb (row_of_bit s b) (row_of_bit s i) ≡ false = ne_eqb (row_of_bit s b) (row_of_bit s i) other in
            let same = posterior_same code before after i refl (λ k. same_part e k i (λ edge of at. other (hit rows shaped r layer k i e edge of at).0)) in
            let none : cond (row_of_bit s b == row_of_bit s i) (cond lacking (pos 0) (d j i)) (pos 0) ≡ pos 0 = ap (λ t. cond t (cond lacking (pos 0) (d j i)) (pos 0)) no' in
            omega (arith, ints, same, none)
            )
        | inl here ↦ (
            let yes' : eqb (row_of_bit s b) (row_of_bit s i) ≡ true = eq-eqb (row_of_bit s b) (row_of_bit s i) here in
            let stood = stands rows shaped r layer i e low lt here in
            let forth_is : forth s c b ≡ i = ap (forth s c) (sym stood.0) ∙ Places.forth_back s shaped c i small low in
            let alone : (k : ℕ) → k ≢ j → part (e + 1) k i ≡ part e k i = λ k ne. same_part e k i (λ edge of at. ne (sym (of_lane rows shaped r layer k of) ∙ ap (λ x. r + x * s.q) (sym (hit rows shaped r layer k i e edge of at).1))) in
            elim (cases_Bool lacking) [
              | inl lack ↦ (
                  let out : is_member rows j i ≡ false = ap (is_member rows j) (sym forth_is) ∙ (lacks rows shaped r layer c small b b_low lack).1.1 in
                  let same = posterior_same code before after i refl (λ k. same_part e k i (λ edge of at.
                  let edge' = edge_parts code k i edge in
                  let is_j : k ≡ j = sym (of_lane rows shaped r layer k of) ∙ ap (λ x. r + x * s.q) (sym (hit rows shaped r layer k i e edge of at).1) in
                  let e' : true ≡ false = sym edge'.1.1 ∙ ap (λ x. is_member rows x i) is_j ∙ out in
                  absurd (cc)))
                  in
                  let none : cond (row_of_bit s b == row_of_bit s i) (cond lacking (pos 0) (d j i)) (pos 0) ≡ pos 0 = (λ x. cond (yes' x) (cond (lack x) (pos 0) (d j i)) (pos 0)) in
                  omega (arith, ints, same, none)
                  )
              | inr shown ↦ (
                  let has : is_member rows j i ≡ true = ap (is_member rows j) (sym forth_is) ∙ present rows shaped r layer c small b b_low (member_has rows shaped r layer e lt) shown in
                  let more : (c + 1) * s.q ≤ s.group * s.q = mul-le-mul_right s.q (omega arith) in
                  let inside : j < check_count s = omega arith in
                  let edge = is_edge-true code j i inside low has in
                  let changed' = posterior_change code before after j i refl inside has alone in
                  let now : part (e + 1) j i ≡ d j i = taken (e + 1) j i e edge (layer_of rows shaped r layer c) stood.1 ∙ ap (λ t. cond t (d j i) (pos 0)) (lt-ltb e (e + 1) (omega arith)) in
                  let was : part e j i ≡ pos 0 = taken e j i e edge (layer_of rows shaped r layer c) stood.1 ∙ ap (λ t. cond t (d j i) (pos 0)) (le-ltb e e (omega arith)) in
                  let it : cond (row_of_bit s b == row_of_bit s i) (cond lacking (pos 0) (d j i)) (pos 0) ≡ d j i = (λ x. cond (yes' x) (cond (shown x) (pos 0) (d j i)) (pos 0)) in
                  omega (arith, ints, changed', now, was, it)
                  )
            ]
            )
      ]

  none_below : (b t : Bool) (p : ℕ) (x : ℤ) → cond b (cond (t && nat_lt p 0) x (pos 0)) (pos 0) ≡ pos 0
  none_below false t p x = refl
  none_below true false p x = refl
  none_below true true p x = let test = le-ltb p 0 (omega arith) in rw test refl

  -- no entry adds nothing
  pub sum_none : (i : ℕ) → sum_to 0 i ≡ pos 0
  sum_none i =
      let none = total-same (λ k. part 0 k i) (λ _. pos 0) (checks_of (code_of rows) i) (λ k. none_below (is_edge (code_of rows) k i) (k % rows.shape.q == r) (place_at rows k i) (d k i)) ∙ total-zero (checks_of (code_of rows) i) in
      omega (arith, ints, none)

  -- all entries add what all checks of the bit do
  pub sum_all : (i : ℕ) → i < code_bits rows.shape → ((k : ℕ) → k % rows.shape.q ≢ r → d k i ≡ pos 0) → sum_to (entry_count rows r) i ≡ total (λ k. d k i) (checks_of (code_of rows) i)
  sum_all i low still =
      let s = rows.shape in
      let code = code_of rows in
      let has = λ (k : ℕ). code.has k i in
      let f = λ (k : ℕ). part (entry_count rows r) k i in
      let same : (k : ℕ) → 0 ≤ k → k < 0 + code.checks → cond (has k) (f k) (pos 0) ≡ cond (has k) (d k i) (pos 0) = λ k _ inside'.
      let inside : k < code.checks = omega arith in
      elim (cases_Bool (has k)) [
        | inr out ↦ rw out refl
        | inl is ↦ (
            let edge = is_edge-true code k i inside low is in
            ap (λ x. cond (has k) x (pos 0)) (elim (cases_eq (k % s.q) r) [
              | inr apart ↦ (
                  let no' : eqb (k % s.q) r ≡ false = ne_eqb (k % s.q) r apart in
                  (λ x. cond (edge x) (cond (no' x && nat_lt (place_at rows k i) (entry_count rows r)) (d k i) (pos 0)) (pos 0)) ∙ sym (still k apart)
                  )
              | inl of ↦ (
                  let c = k / s.q in
                  let small = lane_small rows shaped r layer k inside in
                  let k_is = of_lane rows shaped r layer k of in
                  let has' : is_member rows (r + c * s.q) i ≡ true = ap (λ x. is_member rows x i) k_is ∙ is in
                  let placed = place_in rows shaped r layer c small i low has' in
                  let p_is : place_at rows k i ≡ position_or_len (λ m. m == back s c i) (members code (last_check s r)) = ap (λ x. position_or_len (λ m. m == back s c i) (members code (last_check s x))) of in
                  let p_low : place_at rows k i < entry_count rows r = omega (arith, p_is, placed) in
                  taken (entry_count rows r) k i (place_at rows k i) edge of refl ∙ ap (λ t. cond t (d k i) (pos 0)) (lt-ltb (place_at rows k i) (entry_count rows r) p_low)
                  )
            ])
            )
      ]
      in
      let sums = total-filter f has (upto code.checks) ∙ total-within (λ k. cond (has k) (f k) (pos 0)) (λ k. cond (has k) (d k i) (pos 0)) 0 code.checks same ∙ sym (total-filter (λ k. d k i) has (upto code.checks)) in
      omega (arith, ints, sums)
