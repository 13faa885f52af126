-- What the lists hold is what is made.
use Rattle.std.proofs.Common.{◌≡◌, ℕ, ◌<◌, ◌≤◌, ◌==◌, Bool, true, false, cond, List, [], ◌∷◌, ◌++◌, length, get_or, map, All, ℤ, pos, neg_ℤ, ◌*ℤ◌, ◌≤ℤ◌, inl, inr, Option, None, Some, refl, sym, ap, ap₂, ◌∙◌, arith, ◌-ℤ◌}
use Rattle.std.proofs.lemmas.Int.{ints}
use Rattle.std.proofs.lemmas.List.Elements.{All-head, All-tail}
use Rattle.s2_matrix.specs.Total.{upto}
use Rattle.s2_matrix.specs.Code.{Code, members, checks_of}
use Rattle.s2_matrix.proofs.Totals.{total-zero, total-same}
use Rattle.s2_matrix.proofs.Members.{upto_below}
use Rattle.s2_check.specs.Moves.{Move, in_favour, moves, no_move, placed_of, listed, all_shares}
use Rattle.s2_check.specs.MovesOf.{move_of, moves_of}
use Rattle.s2_check.specs.Split.{Split}
use Rattle.s2_split.specs.Making.{shared, AreLeft}
use Rattle.s2_mode.specs.Limits.{max_soft}
use Rattle.s2_split.specs.Spreading.{has_no_negative_rest, spread, split_by, made_split, spread_scale, max_spread_passes}
use Rattle.s2_split.specs.Greedy.{Moved, none_moved, greedy}
use Rattle.s2_bits.specs.Bits.{bit_at}
use Rattle.s2_check.specs.Cost.{value_at}
use Rattle.s2_check.specs.Views.{IsSoft}
use Rattle.std.proofs.lemmas.Bool.{cases_eq, cases_lt, both_ways}
use Rattle.std.proofs.lemmas.List.{get_or_past}
use Rattle.s2_split.specs.Kept.{scaled_at, AreLow, IsHeld, AreHeldMoves, AreKept, Ends}
use Rattle.s2_split.proofs.FittingLemmas.{none_given'}
use Rattle.s2_split.proofs.Shifts.{given, scaled_rest}
use Rattle.s2_check.proofs.BoundListed.{check_at, map-same_in, total-same_in}
use Rattle.s2_check.proofs.MovedBound.{amount_at}
use Rattle.s2_check.proofs.MovesBack.{moves_listed}
use Rattle.s2_split.proofs.Steps.{held_as}

listed_same : (f g : ℕ → List ℤ) (js : List ℕ) → All (λ j. f j ≡ g j) js → listed f js ≡ listed g js
listed_same f g [] h = refl
listed_same f g (j ∷ js) h =
    ap₂ ◌++◌ (All-head (λ k. f k ≡ g k) j js h) (listed_same f g js (All-tail (λ k. f k ≡ g k) j js h))

-- where nothing is moved the target doesn't matter
nothing : (b : Bool) → cond b (neg_ℤ (pos 0)) (pos 0) ≡ pos 0
nothing true = refl
nothing false = refl

-- of moves and of a list that holds them the shares are the same
same_share : (code : Code) (word : List Bool) (s : ℕ) (m : Moved) (ms : List Move) (j i : ℕ) → IsHeld code j (m.target j) (m.amount j) (get_or ms j no_move) → (moves word s m.target m.amount).share j i ≡ (placed_of code word s ms).share j i
same_share code word s m ms j i here =
    let share = λ (t a : ℕ). in_favour word i (cond (i == t) (neg_ℤ (pos a)) (pos a)) in
    let at = get_or (members code j) (get_or ms j no_move).place 0 in
    let held = sym here.amount_is in
    elim (cases_eq (m.amount j) 0) [
      | inl none ↦ ap (share (m.target j)) none ∙ ap (in_favour word i) (nothing (i == m.target j) ∙ sym (nothing (i == at))) ∙ ap (share at) (sym none ∙ held)
      | inr some ↦ ap₂ share (sym (here.target_is some)) held
    ]

pub same_shares : (code : Code) (word : List Bool) (s : ℕ) (m : Moved) (ms : List Move) → AreHeldMoves code m ms → all_shares code (moves word s m.target m.amount) ≡ all_shares code (placed_of code word 1 ms)
same_shares code word s m ms h =
    let f = (moves word s m.target m.amount).share in
    let g = (placed_of code word s ms).share in
    listed_same (λ j. map (f j) (members code j)) (λ j. map (g j) (members code j)) (upto code.checks) (λ k d within. (
    let j = get_or (upto code.checks) k d in
    map-same_in (f j) (g j) (members code j) (λ k' d' _. same_share code word s m ms j (get_or (members code j) k' d') (h.each j (upto_below code.checks k d within)))
    ))

maps_same : (f g : ℕ → Move) (js : List ℕ) → All (λ j. f j ≡ g j) js → map f js ≡ map g js
maps_same f g [] h = refl
maps_same f g (j ∷ js) h =
    ap₂ ◌∷◌ (All-head (λ k. f k ≡ g k) j js h) (maps_same f g js (All-tail (λ k. f k ≡ g k) j js h))

-- and these are the list
pub same_moves : (code : Code) (word : List Bool) (s : ℕ) (m : Moved) (ms : List Move) → AreHeldMoves code m ms → moves_of code word (moves word s m.target m.amount) ≡ ms
same_moves code word s m ms h =
    let f = λ (j i : ℕ). in_favour word i ((moves word s m.target m.amount).share j i) in
    let g = λ (j i : ℕ). in_favour word i ((placed_of code word s ms).share j i) in
    maps_same (λ j. move_of (map (f j) (members code j))) (λ j. move_of (map (g j) (members code j))) (upto code.checks) (λ k d within. (
    let j = get_or (upto code.checks) k d in
    ap move_of (map-same_in (f j) (g j) (members code j) (λ k' d' _. (let i = get_or (members code j) k' d' in ap (in_favour word i) (same_share code word s m ms j i (h.each j (upto_below code.checks k d within))))))
    )) ∙ moves_listed code word s ms h.long (λ j low. (h.each j low).place) (λ j low none. (h.each j low).unmoved (sym (h.each j low).amount_is ∙ none))

-- the moves of a list
abbrev placed_moves : Code → List Move → Moved
placed_moves code ms =
    record { target = λ j. get_or (members code j) (get_or ms j no_move).place 0; amount = λ j. (get_or ms j no_move).amount }

-- the rests that are kept are those under the moves of the list
pub kept_left : (code : Code) (soft : List ℤ) (word : List Bool) (s : ℕ) (m : Moved) (rests : List ℤ) (ms : List Move) → AreKept code soft word s m rests ms → AreLeft code soft word (placed_of code word s ms) rests
kept_left code soft word s m rests ms kept i low =
    let m' = placed_moves code ms in
    let js = checks_of code i in
    let same : All (λ j. given m i j ≡ given m' i j) js = λ k d within. (
    let j = get_or js k d in
    let h = kept.held.each j (check_at code i k d within).0 in
    elim (cases_eq (m.amount j) 0) [
      | inl none ↦ none_given' (m.target j) (m.amount j) i none ∙ sym (none_given' (m'.target j) (m'.amount j) i (h.amount_is ∙ none))
      | inr some ↦ sym (ap₂ (λ t a. amount_at t a i) (h.target_is some) h.amount_is)
    ]
    ) in
    let sum = total-same_in (given m i) (given m' i) js same in
    kept.left.are i low ∙ scaled_rest code soft word s m i ∙ ap (λ v. scaled_at soft word s i -ℤ v) sum ∙ sym (scaled_rest code soft word s m' i)

pub found_left : (code : Code) (soft : List ℤ) (word : List Bool) (o : Option Moved) (found : Bool) (rests : List ℤ) (ms : List Move) → Ends code soft word o found rests ms → found ≡ true → AreLeft code soft word (placed_of code word spread_scale ms) rests
found_left code soft word None found rests ms e yes' = absurd (both_ways found e yes')
found_left code soft word (Some m) found rests ms e yes' = kept_left code soft word spread_scale m rests ms e.1

-- before any move
pub start_kept : (code : Code) (soft : List ℤ) (word : List Bool) (s : ℕ) (rests : List ℤ) (ms : List Move) → length rests ≡ code.bits → length ms ≡ code.checks → ((j : ℕ) → j < code.checks → 1 ≤ length (members code j)) → ((i : ℕ) → i < code.bits → get_or rests i (pos 0) ≡ scaled_at soft word s i) → ((j : ℕ) → get_or ms j no_move ≡ no_move) → AreKept code soft word s none_moved rests ms
start_kept code soft word s rests ms lr lm some are none_held = record {
  left = record {
    long = lr;
    are = λ i low. (
        let js = checks_of code i in
        let none = total-same (given none_moved i) (λ _. pos 0) js (λ j. none_given' 0 0 i refl) ∙ total-zero js in
        let is = scaled_rest code soft word s none_moved i in
        let here = are i low in
        omega (arith, ints, here, is, none)
        );
    small = λ j low. omega arith;
  };
  held = record {
    long = lm;
    each = λ j low. held_as code j 0 0 0 0 no_move (get_or ms j no_move) refl refl (none_held j) (record { place = some j low; amount_is = refl; target_is = λ moved. absurd (moved refl); unmoved = λ _. refl });
  };
}

low_signs : (b : Bool) (v : ℤ) → neg_ℤ (pos max_soft) ≤ℤ v → v ≤ℤ pos max_soft → neg_ℤ (pos max_soft) ≤ℤ cond b (neg_ℤ v) v
low_signs true v l h = omega (arith, ints)
low_signs false v l h = omega (arith, ints)

one_times : (v : ℤ) → pos 1 *ℤ v ≡ v
one_times v = omega (arith, ints)

-- rests at scale 1 are no lower than a soft value
pub start_low : (soft : List ℤ) (word : List Bool) (rests : List ℤ) → All IsSoft soft → length rests ≡ length soft → ((i : ℕ) → i < length soft → get_or rests i (pos 0) ≡ scaled_at soft word 1 i) → AreLow rests
start_low soft word rests range long are k =
    elim (cases_lt k (length soft)) [
      | inl low ↦ (
          let at = range k (pos 0) low in
          let v = value_at soft k in
          let is = are k low ∙ ap (λ w. cond (bit_at word k) (neg_ℤ w) w) (one_times v) in
          omega (arith, ints, is, low_signs (bit_at word k) v at.low at.high)
          )
      | inr past ↦ (let none = get_or_past rests k (pos 0) (omega arith) in omega (arith, ints))
    ]

-- ---- how the two ways end

shared_if : (code : Code) (word : List Bool) (b : Bool) (split : Split) (other : Option Split) → b ≡ true → shared code word (cond b (Some split) other) ≡ Some (record { scale = split.scale; moves = moves_of code word split })
shared_if code word b split other e = ap (λ t. shared code word (cond t (Some split) other)) e

shared_else : (code : Code) (word : List Bool) (b : Bool) (split : Split) (other : Option Split) → b ≡ false → shared code word (cond b (Some split) other) ≡ shared code word other
shared_else code word b split other e = ap (λ t. shared code word (cond t (Some split) other)) e

pub shared_greedy : (code : Code) (soft : List ℤ) (word : List Bool) (rests : List ℤ) (ms : List Move) (other : Option Split) → AreKept code soft word 1 (greedy code soft word) rests ms → has_no_negative_rest code soft word 1 (greedy code soft word) ≡ true → Some (record { scale = 1; moves = ms }) ≡ shared code word (cond (has_no_negative_rest code soft word 1 (greedy code soft word)) (Some (moves word 1 (greedy code soft word).target (greedy code soft word).amount)) other)
shared_greedy code soft word rests ms other kept h =
    let g = greedy code soft word in
    sym (shared_if code word (has_no_negative_rest code soft word 1 g) (moves word 1 g.target g.amount) other h ∙ ap (λ (l : List Move). Some (record { scale = 1; moves = l })) (same_moves code word 1 g ms kept.held))

pub made_spread : (code : Code) (soft : List ℤ) (word : List Bool) (found : Bool) (rests : List ℤ) (ms : List Move) → Ends code soft word (spread code soft word max_spread_passes none_moved) found rests ms → has_no_negative_rest code soft word 1 (greedy code soft word) ≡ false → cond found (Some (record { scale = spread_scale; moves = ms })) None ≡ shared code word (made_split code soft word)
made_spread code soft word found rests ms ends h =
    let g = greedy code soft word in
    go (spread code soft word max_spread_passes none_moved) ends ∙ sym (shared_else code word (has_no_negative_rest code soft word 1 g) (moves word 1 g.target g.amount) (split_by word spread_scale (spread code soft word max_spread_passes none_moved)) h)
  where
    go : (o : Option Moved) → Ends code soft word o found rests ms → cond found (Some (record { scale = spread_scale; moves = ms })) None ≡ shared code word (split_by word spread_scale o)
    go None e = ap (λ b. cond b (Some (record { scale = spread_scale; moves = ms })) None) e
    go (Some m) e = ap (λ b. cond b (Some (record { scale = spread_scale; moves = ms })) None) e.0 ∙ ap (λ (l : List Move). Some (record { scale = spread_scale; moves = l })) (sym (same_moves code word spread_scale m ms e.1.held))
