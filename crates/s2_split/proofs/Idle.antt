-- Where a rest is not negative the greedy amounts change no list.
use Rattle.std.proofs.Common.{◌≡◌, ◌≢◌, ℕ, zero, suc, ◌+◌, ◌<◌, ◌≤◌, ◌==◌, Bool, true, false, cond, List, [], ◌∷◌, get_or, filter, fold, map, not, All, min, ℤ, pos, neg_ℤ, ◌-ℤ◌, ◌≤ℤ◌, unsigned_abs, inl, inr, refl, sym, ap, subst, ◌∙◌, arith, ne_eqb}
use Rattle.std.specs.Int.{int_min, int_max}
use Rattle.std.proofs.lemmas.Bool.{cases_Bool, cases_eq, cond-false}
use Rattle.std.proofs.lemmas.Int.{ints, clamps}
use Rattle.std.proofs.lemmas.List.{set-get_or}
use Rattle.std.proofs.lemmas.List.Elements.{All-head, All-tail}
use Rattle.s2_matrix.specs.Code.{Code, members, checks_of}
use Rattle.s2_check.specs.Moves.{Move, no_move}
use Rattle.s2_check.proofs.BoundListed.{check_at}
use Rattle.s2_check.specs.Hard.{differs}
use Rattle.s2_split.specs.Scattered.{least_of}
use Rattle.s2_split.specs.Greedy.{Moved, none_moved, free_for, move_to, serve}
use Rattle.s2_split.specs.Kept.{served, is_among, taken_at, IsHeld, AreKept, HaveOneSign, NoneIsNegative}
use Rattle.s2_split.proofs.Passes.{fold_passed, fold_left_out}
use Rattle.s2_split.proofs.Steps.{held_as, greedy_step, greedy_skip}

free_none : (f : ℕ → ℤ) (e : ℕ) (xs : List ℕ) → pos 0 ≤ℤ f e → free_for f e xs ≡ 0
free_none f e xs h =
    let least = unsigned_abs (int_max (pos 0) (least_of (map f (filter (λ i. not (i == e)) xs)))) in
    let lacks : unsigned_abs (int_min (pos 0) (f e)) ≡ 0 = omega (arith, ints, clamps) in
    let none : min 0 least ≡ 0 = omega arith in
    ap (λ a. min a least) lacks ∙ none

taken_none : (xs : List ℕ) (e k d : ℕ) (v : ℤ) → d ≡ 0 → v ≡ v -ℤ taken_at xs e (pos d) k
taken_none xs e k d v none =
    either (is_among xs k) (k == e) ∙ ap (λ a. v -ℤ taken_at xs e (pos a) k) (sym none)
  where
    either : (b c : Bool) → v ≡ v -ℤ cond b (cond c (neg_ℤ (pos 0)) (pos 0)) (pos 0)
    either true true = omega (arith, ints)
    either true false = omega (arith, ints)
    either false c = omega (arith, ints)

-- a check moves nothing to a bit that lacks nothing
pub greedy_idle : (code : Code) (soft : List ℤ) (word : List Bool) (m : Moved) (j e : ℕ) (rests : List ℤ) (ms : List Move) → AreKept code soft word 1 m rests ms → j < code.checks → e < code.bits → pos 0 ≤ℤ get_or rests e (pos 0) → AreKept code soft word 1 (move_to code soft word e m j) rests ms
greedy_idle code soft word m j e rests ms kept h le enough =
    let own = get_or ms j no_move in
    let held = kept.held.each j h in
    elim (cases_eq own.amount 0) [
      | inl zero_held ↦ (
          let free = free_none (λ i. get_or rests i (pos 0)) e (members code j) enough in
          let nothing : IsHeld code j e 0 own = record { place = held.place; amount_is = zero_held; target_is = λ some. absurd (some refl); unmoved = λ _. held.unmoved (sym held.amount_is ∙ zero_held) } in
          let here = held_as code j e e 0 (free_for (λ i. get_or rests i (pos 0)) e (members code j)) own own refl free refl nothing in
          let step = greedy_step code soft word m j e own rests rests ms kept h le zero_held here (omega arith) refl (λ k. taken_none (members code j) e k own.amount (get_or rests k (pos 0)) zero_held) in
          subst (λ (l : List Move). AreKept code soft word 1 (move_to code soft word e m j) rests l) (set-get_or ms j no_move) step
          )
      | inr some ↦ greedy_skip code soft word m j e rests ms kept h some
    ]

checks_idle : (code : Code) (soft : List ℤ) (word : List Bool) (m : Moved) (e : ℕ) (js : List ℕ) (rests : List ℤ) (ms : List Move) → All (λ j. j < code.checks) js → AreKept code soft word 1 m rests ms → e < code.bits → pos 0 ≤ℤ get_or rests e (pos 0) → AreKept code soft word 1 (fold (move_to code soft word e) m js) rests ms
checks_idle code soft word m e [] rests ms below kept le enough = kept
checks_idle code soft word m e (j ∷ js) rests ms below kept le enough =
    let P = λ (k : ℕ). k < code.checks in
    checks_idle code soft word (move_to code soft word e m j) e js rests ms (All-tail P j js below) (greedy_idle code soft word m j e rests ms kept (All-head P j js below) le enough) le enough

pub serve_idle : (code : Code) (soft : List ℤ) (word : List Bool) (m : Moved) (e : ℕ) (rests : List ℤ) (ms : List Move) → AreKept code soft word 1 m rests ms → e < code.bits → pos 0 ≤ℤ get_or rests e (pos 0) → AreKept code soft word 1 (serve code soft word m e) rests ms
serve_idle code soft word m e rests ms kept le enough =
    checks_idle code soft word m e (checks_of code e) rests ms (λ t d within. (check_at code e t d within).0) kept le enough

-- a bit that lacks nothing is passed over, whether or not it differs
bit_idle : (code : Code) (soft : List ℤ) (word : List Bool) (e : ℕ) (rests : List ℤ) (ms : List Move) → AreKept code soft word 1 (served code soft word e) rests ms → e < code.bits → pos 0 ≤ℤ get_or rests e (pos 0) → AreKept code soft word 1 (served code soft word (e + 1)) rests ms
bit_idle code soft word e rests ms kept le enough =
    let P = λ (m : Moved). AreKept code soft word 1 m rests ms in
    elim (cases_Bool (differs soft word e)) [
      | inl passes ↦ subst P (sym (fold_passed (serve code soft word) none_moved (differs soft word) e passes)) (serve_idle code soft word (served code soft word e) e rests ms kept le enough)
      | inr fails ↦ subst P (sym (fold_left_out (serve code soft word) none_moved (differs soft word) e fails)) kept
    ]

-- and so are many
pub bits_idle : (code : Code) (soft : List ℤ) (word : List Bool) (from n : ℕ) (rests : List ℤ) (ms : List Move) → AreKept code soft word 1 (served code soft word from) rests ms → from + n ≤ code.bits → NoneIsNegative from (from + n) rests → AreKept code soft word 1 (served code soft word (from + n)) rests ms
bits_idle code soft word from zero rests ms kept within none =
    let here : from ≡ from + 0 = omega arith in
    subst (λ k. AreKept code soft word 1 (served code soft word k) rests ms) here kept
bits_idle code soft word from (suc n) rests ms kept within none =
    let more : (from + n) + 1 ≡ from + suc n = omega arith in
    let before = bits_idle code soft word from n rests ms kept (omega arith) (λ k low high. none k low (omega arith)) in
    subst (λ k. AreKept code soft word 1 (served code soft word k) rests ms) more (bit_idle code soft word (from + n) rests ms before (omega arith) (none (from + n) (omega arith) (omega arith)))

-- what a check takes changes no sign but its target's
pub sign_after : (b : Bool) (e k d : ℕ) (old new : ℤ) → new ≡ old -ℤ cond b (cond (k == e) (neg_ℤ (pos d)) (pos d)) (pos 0) → k ≢ e → (b ≡ true → 0 < d → pos d ≤ℤ old) → HaveOneSign old new
sign_after false e k d old new is other spared = (λ h. omega (arith, ints), λ h. omega (arith, ints))
sign_after true e k d old new is other spared =
    let c = cond-false (k == e) (neg_ℤ (pos d)) (pos d) (ne_eqb k e other) in
    elim (cases_eq d 0) [
      | inl none ↦ (λ h. omega (arith, ints), λ h. omega (arith, ints))
      | inr some ↦ (let s = spared refl (omega arith) in (λ h. omega (arith, ints), λ h. omega (arith, ints)))
    ]
