-- A check's move is given back, and another is made.
use Rattle.std.proofs.Common.{◌≡◌, ℕ, ◌*◌, ◌<◌, ◌≤◌, AllPairs, ◌==◌, Bool, true, false, cond, List, length, get_or, set, get_or-set_same, get_or-set_other, ℤ, pos, neg_ℤ, ◌+ℤ◌, ◌-ℤ◌, ◌≤ℤ◌, refl, inl, inr, sym, ap, ap₂, ◌∙◌, arith, to_z, of_z, w32, eq-eqb, ne_eqb}
use Rattle.std.proofs.lemmas.Bool.{both_ways, cases_eq, cases_lt, cond-true, cond-false, eqb-true}
use Rattle.std.proofs.lemmas.Int.{ints}
use Rattle.std.proofs.lemmas.List.Folds.{list_any_at}
use Rattle.s2_check.specs.Moves.{Move, max_moved}
use Rattle.s2_split.specs.Kept.{max_rest, max_between, is_among, taken_at, evenly_at, given_back}
use Rattle.s2_split.proofs.Lesser.{IsWrittenAt}

-- the member at a place is among them
pub among_there : (ms : List ℕ) (i : ℕ) → i < length ms → is_among ms (get_or ms i 0) ≡ true
among_there ms i h = list_any_at (λ m. m == get_or ms i 0) ms i 0 h (eq-eqb (get_or ms i 0) (get_or ms i 0) refl)

-- rising members are the same where their places are
same_place : (ms : List ℕ) (i p : ℕ) → AllPairs (λ a b. a < b) ms → i < length ms → p < length ms → (get_or ms i 0 == get_or ms p 0) ≡ (i == p)
same_place ms i p rising h low =
    elim (cases_eq i p) [
      | inl same ↦ eq-eqb (get_or ms i 0) (get_or ms p 0) (ap (λ k. get_or ms k 0) same) ∙ sym (eq-eqb i p same)
      | inr other ↦ ne_eqb (get_or ms i 0) (get_or ms p 0) (λ same. elim (cases_lt i p) [
        | inl less ↦ (let up = rising i p 0 less low in omega arith)
        | inr more ↦ (let up = rising p i 0 (omega arith) h in omega arith)
      ]) ∙ sym (ne_eqb i p other)
    ]

-- what is given back to a member, or taken from it
pub given_member : (rests : List ℤ) (ms : List ℕ) (held : Move) (i : ℕ) → AllPairs (λ a b. a < b) ms → held.place < length ms → i < length ms → given_back rests ms held (get_or ms i 0) ≡ get_or rests (get_or ms i 0) (pos 0) +ℤ cond (i == held.place) (neg_ℤ (pos held.amount)) (pos held.amount)
given_member rests ms held i rising low h =
    let x = get_or ms i 0 in
    let e = x == get_or ms held.place 0 in
    ap (λ b. get_or rests x (pos 0) -ℤ cond b (cond e (neg_ℤ (neg_ℤ (pos held.amount))) (neg_ℤ (pos held.amount))) (pos 0)) (among_there ms i h) ∙ either e ∙ ap (λ b. get_or rests x (pos 0) +ℤ cond b (neg_ℤ (pos held.amount)) (pos held.amount)) (same_place ms i held.place rising h low)
  where
    either : (b : Bool) → get_or rests (get_or ms i 0) (pos 0) -ℤ cond b (neg_ℤ (neg_ℤ (pos held.amount))) (neg_ℤ (pos held.amount)) ≡ get_or rests (get_or ms i 0) (pos 0) +ℤ cond b (neg_ℤ (pos held.amount)) (pos held.amount)
    either true = omega (arith, ints)
    either false = omega (arith, ints)

pub given_within : (rests : List ℤ) (ms : List ℕ) (held : Move) (k : ℕ) → held.amount ≤ max_moved → (neg_ℤ (pos max_rest) ≤ℤ get_or rests k (pos 0)) × (get_or rests k (pos 0) ≤ℤ pos max_rest) → (neg_ℤ (pos max_between) ≤ℤ given_back rests ms held k) × (given_back rests ms held k ≤ℤ pos max_between)
given_within rests ms held k few within =
    either (is_among ms k) (k == get_or ms held.place 0)
  where
    either : (b c : Bool) → (neg_ℤ (pos max_between) ≤ℤ (get_or rests k (pos 0) -ℤ cond b (cond c (neg_ℤ (neg_ℤ (pos held.amount))) (neg_ℤ (pos held.amount))) (pos 0))) × ((get_or rests k (pos 0) -ℤ cond b (cond c (neg_ℤ (neg_ℤ (pos held.amount))) (neg_ℤ (pos held.amount))) (pos 0)) ≤ℤ pos max_between)
    either true true = (omega (arith, ints, within.0), omega (arith, ints, within.1))
    either true false = (omega (arith, ints, within.0), omega (arith, ints, within.1))
    either false c = (omega (arith, ints, within.0), omega (arith, ints, within.1))

-- what a move adds to the member at a place
abbrev pub gain : Move → ℕ → ℤ
gain own i = cond (i == own.place) (pos own.amount) (neg_ℤ (pos own.amount))

pub gain_within : (own : Move) (i : ℕ) → own.amount ≤ max_moved → (neg_ℤ (pos max_moved) ≤ℤ gain own i) × (gain own i ≤ℤ pos max_moved)
gain_within own i few = either (i == own.place)
  where
    either : (b : Bool) → (neg_ℤ (pos max_moved) ≤ℤ cond b (pos own.amount) (neg_ℤ (pos own.amount))) × (cond b (pos own.amount) (neg_ℤ (pos own.amount)) ≤ℤ pos max_moved)
    either true = (omega (arith, ints, few), omega (arith, ints, few))
    either false = (omega (arith, ints, few), omega (arith, ints, few))

-- the rest of a place once the held move is given back and another is made
abbrev pub anew_at : List ℤ → List ℕ → Move → Move → ℕ → ℤ
anew_at rests ms held own k =
    given_back rests ms held k -ℤ taken_at ms (get_or ms own.place 0) (pos own.amount) k

-- that of a member
pub anew_member : (rests : List ℤ) (ms : List ℕ) (held own : Move) (i : ℕ) → AllPairs (λ a b. a < b) ms → held.place < length ms → own.place < length ms → i < length ms → anew_at rests ms held own (get_or ms i 0) ≡ get_or rests (get_or ms i 0) (pos 0) -ℤ gain held i +ℤ gain own i
anew_member rests ms held own i rising held_low own_low h =
    let x = get_or ms i 0 in
    let d = own.amount in
    let back = given_member rests ms held i rising held_low h in
    let among = ap (λ b. cond b (cond (x == get_or ms own.place 0) (neg_ℤ (pos d)) (pos d)) (pos 0)) (among_there ms i h) in
    let place = ap (λ b. cond b (neg_ℤ (pos d)) (pos d)) (same_place ms i own.place rising h own_low) in
    ap₂ ◌-ℤ◌ back (among ∙ place) ∙ either (i == held.place) (i == own.place)
  where
    either : (b c : Bool) → get_or rests (get_or ms i 0) (pos 0) +ℤ cond b (neg_ℤ (pos held.amount)) (pos held.amount) -ℤ cond c (neg_ℤ (pos own.amount)) (pos own.amount) ≡ get_or rests (get_or ms i 0) (pos 0) -ℤ cond b (pos held.amount) (neg_ℤ (pos held.amount)) +ℤ cond c (pos own.amount) (neg_ℤ (pos own.amount))
    either true true = omega (arith, ints)
    either true false = omega (arith, ints)
    either false true = omega (arith, ints)
    either false false = omega (arith, ints)

-- once each member's rest is written, all are so
pub anew_written : (rests new : List ℤ) (ms : List ℕ) (held own : Move) → IsWrittenAt (pos 0) (anew_at rests ms held own) ms rests new → (k : ℕ) → get_or new k (pos 0) ≡ anew_at rests ms held own k
anew_written rests new ms held own written k =
    written k ∙ either (is_among ms k) (k == get_or ms held.place 0) (k == get_or ms own.place 0)
  where
    either : (b c e : Bool) → cond b (get_or rests k (pos 0) -ℤ cond b (cond c (neg_ℤ (neg_ℤ (pos held.amount))) (neg_ℤ (pos held.amount))) (pos 0) -ℤ cond b (cond e (neg_ℤ (pos own.amount)) (pos own.amount)) (pos 0)) (get_or rests k (pos 0)) ≡ get_or rests k (pos 0) -ℤ cond b (cond c (neg_ℤ (neg_ℤ (pos held.amount))) (neg_ℤ (pos held.amount))) (pos 0) -ℤ cond b (cond e (neg_ℤ (pos own.amount)) (pos own.amount)) (pos 0)
    either true c e = refl
    either false c e = omega (arith, ints)

-- ---- the same by what is taken evenly, and what the two targets get

-- a number of a list is changed
pub changed : (xs : List ℤ) (i : ℕ) (v d : ℤ) (k : ℕ) → i < length xs → v ≡ get_or xs i (pos 0) +ℤ d → get_or (set xs i v) k (pos 0) ≡ get_or xs k (pos 0) +ℤ cond (k == i) d (pos 0)
changed xs i v d k h is =
    elim (cases_eq k i) [
      | inl same ↦ (
          let here = ap (λ m. get_or (set xs i v) m (pos 0)) same ∙ get_or-set_same xs i v (pos 0) h in
          let was = ap (λ m. get_or xs m (pos 0)) same in
          let c = cond-true (k == i) d (pos 0) (eq-eqb k i same) in
          omega (arith, ints, here, was, c, is)
          )
      | inr other ↦ (
          let there = get_or-set_other xs i k v (pos 0) other in
          let c = cond-false (k == i) d (pos 0) (ne_eqb k i other) in
          omega (arith, ints, there, c)
          )
    ]

both_moves : (b f t : Bool) (a d : ℕ) (old : ℤ) → (f ≡ true → b ≡ true) → (t ≡ true → b ≡ true) → old -ℤ cond b (pos d -ℤ pos a) (pos 0) +ℤ cond f (neg_ℤ (pos (2 * a))) (pos 0) +ℤ cond t (pos (2 * d)) (pos 0) ≡ old -ℤ cond b (cond f (neg_ℤ (neg_ℤ (pos a))) (neg_ℤ (pos a))) (pos 0) -ℤ cond b (cond t (neg_ℤ (pos d)) (pos d)) (pos 0)
both_moves true true true a d old from to = omega (arith, ints)
both_moves true true false a d old from to = omega (arith, ints)
both_moves true false true a d old from to = omega (arith, ints)
both_moves true false false a d old from to = omega (arith, ints)
both_moves false true t a d old from to = absurd (both_ways false refl (from refl))
both_moves false false true a d old from to = absurd (both_ways false refl (to refl))
both_moves false false false a d old from to = omega (arith, ints)

pub either_within : (b : Bool) (d : ℤ) (n : ℕ) → neg_ℤ (pos n) ≤ℤ d → d ≤ℤ pos n → (neg_ℤ (pos n) ≤ℤ cond b d (pos 0)) × (cond b d (pos 0) ≤ℤ pos n)
either_within true d n low high = (low, high)
either_within false d n low high = (omega (arith, ints), omega (arith, ints))

pub difference : (a d : ℕ) → a ≤ max_moved → d ≤ max_moved → to_z w32 (of_z w32 (to_z w32 d -ℤ to_z w32 a)) ≡ pos d -ℤ pos a
difference a d held own = omega (arith, ints, held, own)

pub moved_anew : (ms : List ℕ) (held own : Move) (p q : ℕ) (old mid : List ℤ) (v w : ℤ) → p ≡ held.place → q ≡ own.place → p < length ms → q < length ms → get_or ms p 0 < length mid → get_or ms q 0 < length (set mid (get_or ms p 0) v) → ((k : ℕ) → get_or mid k (pos 0) ≡ get_or old k (pos 0) -ℤ evenly_at ms (pos own.amount -ℤ pos held.amount) k) → v ≡ get_or mid (get_or ms p 0) (pos 0) +ℤ neg_ℤ (pos (2 * held.amount)) → w ≡ get_or (set mid (get_or ms p 0) v) (get_or ms q 0) (pos 0) +ℤ pos (2 * own.amount) → (k : ℕ) → get_or (set (set mid (get_or ms p 0) v) (get_or ms q 0) w) k (pos 0) ≡ given_back old ms held k -ℤ taken_at ms (get_or ms own.place 0) (pos own.amount) k
moved_anew ms held own p q old mid v w p_is q_is held_place own_place held_low own_low is v_is w_is k =
    let from = get_or ms p 0 in
    let to = get_or ms q 0 in
    let first = changed mid from v (neg_ℤ (pos (2 * held.amount))) k held_low v_is in
    let second = changed (set mid from v) to w (pos (2 * own.amount)) k own_low w_is in
    let at_from : (k == from) ≡ true → is_among ms k ≡ true = λ yes'. ap (is_among ms) (eqb-true k from yes') ∙ among_there ms p held_place in
    let at_to : (k == to) ≡ true → is_among ms k ≡ true = λ yes'. ap (is_among ms) (eqb-true k to yes') ∙ among_there ms q own_place in
    second ∙ ap (λ u. u +ℤ cond (k == to) (pos (2 * own.amount)) (pos 0)) (first ∙ ap (λ u. u +ℤ cond (k == from) (neg_ℤ (pos (2 * held.amount))) (pos 0)) (is k)) ∙ both_moves (is_among ms k) (k == from) (k == to) held.amount own.amount (get_or old k (pos 0)) at_from at_to ∙ ap₂ (λ a b. (get_or old k (pos 0) -ℤ taken_at ms (get_or ms a 0) (neg_ℤ (pos held.amount)) k) -ℤ taken_at ms (get_or ms b 0) (pos own.amount) k) p_is q_is
