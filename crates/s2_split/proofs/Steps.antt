-- The lists after one check's change.
use Rattle.std.proofs.Common.{◌≡◌, ◌≢◌, ℕ, ◌<◌, ◌≤◌, ◌==◌, Bool, true, false, not, cond, List, length, get_or, set, get_or-set_same, get_or-set_other, length-set, filter, All, ℤ, pos, neg_ℤ, ◌+ℤ◌, ◌-ℤ◌, ◌≤ℤ◌, inl, inr, refl, sym, ap, ap₂, subst, ◌∙◌, arith, eq-eqb, ne_eqb}
use Rattle.std.proofs.lemmas.Bool.{cases_eq, cond-true, cond-false}
use Rattle.std.proofs.lemmas.Int.{ints}
use Rattle.std.proofs.lemmas.List.Elements.{All-filter}
use Rattle.s2_matrix.specs.Code.{Code, members}
use Rattle.s2_matrix.proofs.Members.{members_below}
use Rattle.s2_check.specs.Moves.{Move, no_move, max_moved}
use Rattle.s2_split.specs.Scattered.{least_of}
use Rattle.s2_split.specs.Greedy.{Moved, rest_at, put, free_for, amount_for, move_to}
use Rattle.s2_mode.specs.Limits.{max_soft}
use Rattle.s2_split.specs.Kept.{taken_at, AreRests, IsHeld, AreHeldMoves, AreKept}
use Rattle.s2_split.proofs.FittingLemmas.{none_given'}
use Rattle.s2_split.proofs.GreedyLemmas.{put_same, put_other}
use Rattle.s2_check.proofs.BoundListed.{map-same_in}
use Rattle.s2_check.proofs.MovedBound.{amount_at}
use Rattle.s2_split.proofs.Shifts.{given, rest_change, taken_is}

-- the moves with check j's replaced
unfoldable pub with_move : Moved → ℕ → ℕ → ℕ → Moved
with_move m j e d = record { target = put m.target j e; amount = put m.amount j d }

pub same_outside : (m : Moved) (j e d k : ℕ) → k ≢ j → ((with_move m j e d).target k ≡ m.target k) × ((with_move m j e d).amount k ≡ m.amount k)
unfolding with_move
same_outside m j e d k other = (put_other m.target j e k other, put_other m.amount j d k other)

pub given_new : (m : Moved) (j e d i : ℕ) → given (with_move m j e d) i j ≡ amount_at e d i
unfolding with_move
given_new m j e d i = ap₂ (λ t a. amount_at t a i) (put_same m.target j e) (put_same m.amount j d)

amount_new : (m : Moved) (j e d k : ℕ) → k ≡ j → (with_move m j e d).amount k ≡ d
unfolding with_move
amount_new m j e d k same = ap (put m.amount j d) same ∙ put_same m.amount j d

pub rests_after : (code : Code) (soft : List ℤ) (word : List Bool) (s : ℕ) (m : Moved) (j e d : ℕ) (rests rests' : List ℤ) → AreRests code soft word s m rests → j < code.checks → d ≤ max_moved → length rests' ≡ length rests → ((i : ℕ) → i < code.bits → get_or rests' i (pos 0) ≡ get_or rests i (pos 0) +ℤ cond (code.has j i) (given m i j -ℤ amount_at e d i) (pos 0)) → AreRests code soft word s (with_move m j e d) rests'
rests_after code soft word s m j e d rests rests' r h small long is = record {
  long = long ∙ r.long;
  are = λ i low. (
      let m' = with_move m j e d in
      is i low ∙ ap₂ ◌+ℤ◌ (r.are i low) (ap (λ v. cond (code.has j i) (given m i j -ℤ v) (pos 0)) (sym (given_new m j e d i))) ∙ sym (rest_change code soft word s m m' i j h (λ k other. same_outside m j e d k other))
      );
  small = λ k low. elim (cases_eq k j) [
    | inl same ↦ (let a = amount_new m j e d k same in omega arith)
    | inr other ↦ (let a = (same_outside m j e d k other).1 in omega (arith, r.small k low))
  ];
}

target_new : (m : Moved) (j e d : ℕ) → (with_move m j e d).target j ≡ e
unfolding with_move
target_new m j e d = put_same m.target j e

pub held_as : (code : Code) (k t t' a a' : ℕ) (v v' : Move) → t' ≡ t → a' ≡ a → v' ≡ v → IsHeld code k t a v → IsHeld code k t' a' v'
held_as code k t t' a a' v v' et ea ev h =
    subst (λ (x : ℕ). IsHeld code k x a' v') (sym et) (subst (λ (x : ℕ). IsHeld code k t x v') (sym ea) (subst (λ (x : Move). IsHeld code k t a x) (sym ev) h))

-- the list after one check's move is written
moves_set : (code : Code) (m m' : Moved) (j : ℕ) (own : Move) (ms : List Move) → AreHeldMoves code m ms → j < code.checks → IsHeld code j (m'.target j) (m'.amount j) own → ((k : ℕ) → k ≢ j → (m'.target k ≡ m.target k) × (m'.amount k ≡ m.amount k)) → AreHeldMoves code m' (set ms j own)
moves_set code m m' j own ms h low here same = record {
  long = length-set ms j own ∙ h.long;
  each = λ k within. elim (cases_eq k j) [
    | inl at ↦ (
        let there = get_or-set_same ms j own no_move (omega (arith, h.long)) in
        subst (λ (n : ℕ). IsHeld code n (m'.target n) (m'.amount n) (get_or (set ms j own) n no_move)) (sym at) (held_as code j (m'.target j) (m'.target j) (m'.amount j) (m'.amount j) own (get_or (set ms j own) j no_move) refl refl there here)
        )
    | inr other ↦ held_as code k (m.target k) (m'.target k) (m.amount k) (m'.amount k) (get_or ms k no_move) (get_or (set ms j own) k no_move) (same k other).0 (same k other).1 (get_or-set_other ms j k own no_move other) (h.each k within)
  ];
}

-- a move is held as what it is
pub held_own : (code : Code) (j e d : ℕ) (own : Move) → IsHeld code j e d own → IsHeld code j e own.amount own
held_own code j e d own h = held_as code j e e d own.amount own own refl h.amount_is refl h

pub moves_after : (code : Code) (m0 m : Moved) (j e d : ℕ) (own : Move) (ms : List Move) → AreHeldMoves code m0 ms → j < code.checks → IsHeld code j e d own → ((k : ℕ) → k ≢ j → (m.target k ≡ m0.target k) × (m.amount k ≡ m0.amount k)) → AreHeldMoves code (with_move m j e d) (set ms j own)
moves_after code m0 m j e d own ms h low here same =
    moves_set code m0 (with_move m j e d) j own ms h low (held_as code j e ((with_move m j e d).target j) d ((with_move m j e d).amount j) own own (target_new m j e d) (amount_new m j e d j refl) refl here) (λ k other. (
    let out = same_outside m j e d k other in (out.0 ∙ (same k other).0, out.1 ∙ (same k other).1)
    ))

none_held : (b : Bool) (g v : ℤ) (r : ℤ) → g ≡ pos 0 → r -ℤ cond b v (pos 0) ≡ r +ℤ cond b (g -ℤ v) (pos 0)
none_held true g v r e = omega (arith, ints, e)
none_held false g v r e = omega (arith, ints)

-- a check that holds nothing moves an amount
pub rests_given : (code : Code) (soft : List ℤ) (word : List Bool) (s : ℕ) (m : Moved) (j e d : ℕ) (rests rests' : List ℤ) → AreRests code soft word s m rests → j < code.checks → m.amount j ≡ 0 → d ≤ max_moved → length rests' ≡ length rests → ((k : ℕ) → get_or rests' k (pos 0) ≡ get_or rests k (pos 0) -ℤ taken_at (members code j) e (pos d) k) → AreRests code soft word s (with_move m j e d) rests'
rests_given code soft word s m j e d rests rests' r h none small long is =
    rests_after code soft word s m j e d rests rests' r h small long (λ i low. is i ∙ ap (λ v. get_or rests i (pos 0) -ℤ v) (taken_is code i j e d low) ∙ none_held (code.has j i) (given m i j) (amount_at e d i) (get_or rests i (pos 0)) (none_given' (m.target j) (m.amount j) i none))

-- ---- greedy

-- the amount by the rests that are listed
pub free_same : (f g : ℕ → ℤ) (e : ℕ) (xs : List ℕ) → f e ≡ g e → All (λ x. f x ≡ g x) xs → free_for f e xs ≡ free_for g e xs
free_same f g e xs here all =
    let p = λ (i : ℕ). not (i == e) in
    let least = ap least_of (map-same_in f g (filter p xs) (All-filter p (λ x. f x ≡ g x) xs all)) in rw here (rw least refl)

pub greedy_step : (code : Code) (soft : List ℤ) (word : List Bool) (m : Moved) (j e : ℕ) (own : Move) (rests rests' : List ℤ) (ms : List Move) → AreKept code soft word 1 m rests ms → j < code.checks → e < code.bits → (get_or ms j no_move).amount ≡ 0 → IsHeld code j e (free_for (λ i. get_or rests i (pos 0)) e (members code j)) own → own.amount ≤ max_soft → length rests' ≡ length rests → ((k : ℕ) → get_or rests' k (pos 0) ≡ get_or rests k (pos 0) -ℤ taken_at (members code j) e (pos own.amount) k) → AreKept code soft word 1 (move_to code soft word e m j) rests' (set ms j own)
unfolding with_move
greedy_step code soft word m j e own rests rests' ms kept h le zero_held here small long is =
    let d = own.amount in
    let none : m.amount j ≡ 0 = sym (kept.held.each j h).amount_is ∙ zero_held in
    let f = λ (i : ℕ). get_or rests i (pos 0) in
    let same : d ≡ amount_for code soft word m e j = here.amount_is ∙ free_same f (rest_at code soft word 1 m) e (members code j) (kept.left.are e le) (λ k d' within. kept.left.are (get_or (members code j) k d') (members_below code j k d' within)) in
    let to : move_to code soft word e m j ≡ with_move m j e d = cond-true (m.amount j == 0) (with_move m j e (amount_for code soft word m e j)) m (eq-eqb (m.amount j) 0 none) ∙ ap (with_move m j e) (sym same) in
    subst (λ (n : Moved). AreKept code soft word 1 n rests' (set ms j own)) (sym to) (record {
      left = rests_given code soft word 1 m j e d rests rests' kept.left h none (omega arith) long is;
      held = moves_after code m m j e d own ms kept.held h (held_own code j e (free_for f e (members code j)) own here) (λ k other. (refl, refl));
    })

pub greedy_skip : (code : Code) (soft : List ℤ) (word : List Bool) (m : Moved) (j e : ℕ) (rests : List ℤ) (ms : List Move) → AreKept code soft word 1 m rests ms → j < code.checks → (get_or ms j no_move).amount ≢ 0 → AreKept code soft word 1 (move_to code soft word e m j) rests ms
unfolding with_move
greedy_skip code soft word m j e rests ms kept h some =
    let held : m.amount j ≢ 0 = λ none. some ((kept.held.each j h).amount_is ∙ none) in
    let to : move_to code soft word e m j ≡ m = cond-false (m.amount j == 0) (with_move m j e (amount_for code soft word m e j)) m (ne_eqb (m.amount j) 0 held) in
    subst (λ (n : Moved). AreKept code soft word 1 n rests ms) (sym to) kept

-- a bit's rest falls by what all the others have
pub low_after : (b : Bool) (e k d : ℕ) (old new : ℤ) → new ≡ old -ℤ cond b (cond (k == e) (neg_ℤ (pos d)) (pos d)) (pos 0) → neg_ℤ (pos max_soft) ≤ℤ old → (b ≡ true → k ≢ e → 0 < d → pos d ≤ℤ old) → neg_ℤ (pos max_soft) ≤ℤ new
low_after false e k d old new is low spared = omega (arith, ints)
low_after true e k d old new is low spared =
    elim (cases_eq k e) [
      | inl same ↦ (let c = cond-true (k == e) (neg_ℤ (pos d)) (pos d) (eq-eqb k e same) in omega (arith, ints))
      | inr other ↦ (
          let c = cond-false (k == e) (neg_ℤ (pos d)) (pos d) (ne_eqb k e other) in
          elim (cases_eq d 0) [ inl none ↦ omega (arith, ints) | inr some ↦ (let s = spared refl other (omega arith) in omega (arith, ints)) ]
          )
    ]
