-- What is made moves to members alone: so the moves of its shares have these shares.
use Rattle.std.proofs.Common.{◌≡◌, ◌≢◌, ℕ, zero, suc, ◌<◌, ◌≤◌, ◌==◌, nat_lt, Bool, true, false, cond, List, [], ◌∷◌, length, get_or, map, filter, fold, All, ℤ, Option, None, Some, IfSome, inl, inr, refl, sym, ap, subst, ◌∙◌, arith, eq-eqb, ne_eqb, eqb-true}
use Rattle.std.specs.List.{position_or_len}
use Rattle.std.proofs.lemmas.Bool.{cases_Bool, cases_eq, cond-false, ltb-true}
use Rattle.std.proofs.lemmas.List.{get_or-map, length-map}
use Rattle.std.proofs.lemmas.List.FromFn.{length-range_with_len, get_or-range_with_len}
use Rattle.std.proofs.lemmas.List.Elements.{All-head, All-tail, All-filter, filter_passes}
use Rattle.std.proofs.lemmas.List.Sums.{passes_at_first}
use Rattle.s2_rows.specs.Rows.{Rows}
use Rattle.s2_matrix.specs.Total.{upto}
use Rattle.s2_matrix.specs.Code.{Code, code_of, members, checks_of}
use Rattle.s2_matrix.proofs.Members.{members_below, place_in_members, upto_below}
use Rattle.s2_check.specs.Hard.{differs}
use Rattle.s2_check.specs.Split.{Split}
use Rattle.s2_check.specs.Moves.{Move, no_move, moves, placed_of, all_shares}
use Rattle.s2_check.specs.MovesOf.{moves_of}
use Rattle.s2_check.proofs.BoundListed.{check_at}
use Rattle.s2_check.proofs.Places.{some_member}
use Rattle.s2_split.specs.Greedy.{Moved, none_moved, rest_at, amount_for, put, move_to, serve, greedy}
use Rattle.s2_split.specs.Spreading.{amount_to, least_member, give_back, spread_check, spread_pass, spread, spread_scale, max_spread_passes, has_no_negative_rest, split_by, made_split}
use Rattle.s2_split.specs.Kept.{IsHeld, AreHeldMoves}
use Rattle.s2_split.proofs.GreedyLemmas.{put_same, put_other}
use Rattle.s2_split.proofs.Steps.{held_as}
use Rattle.s2_split.proofs.SpreadSteps.{least_holds}
use Rattle.s2_split.proofs.MadeLists.{same_shares, same_moves}

abbrev IsIn : Code → ℕ → ℕ → Type 0
IsIn code i j = position_or_len (λ m. m == i) (members code j) < length (members code j)

-- what is moved is moved to a member
abbrev IsTo : Code → Moved → Type 0
IsTo code m = (j : ℕ) → m.amount j ≢ 0 → IsIn code (m.target j) j

put_to : (code : Code) (m : Moved) (j e d : ℕ) → IsTo code m → (d ≢ 0 → IsIn code e j) → IsTo code (record { target = put m.target j e; amount = put m.amount j d })
put_to code m j e d h here k some =
    elim (cases_eq k j) [
      | inl same ↦ (
          let own = here (λ none. some (ap (put m.amount j d) same ∙ put_same m.amount j d ∙ none)) in
          let to = ap (put m.target j e) same ∙ put_same m.target j e in
          subst (λ (i : ℕ). IsIn code i k) (sym to) (subst (IsIn code e) (sym same) own)
          )
      | inr other ↦ subst (λ (i : ℕ). IsIn code i k) (sym (put_other m.target j e k other)) (h k (λ none. some (put_other m.amount j d k other ∙ none)))
    ]

back_to : (code : Code) (m : Moved) (j : ℕ) → IsTo code m → IsTo code (give_back m j)
back_to code m j h k some =
    elim (cases_eq k j) [
      | inl same ↦ absurd (some (ap (put m.amount j 0) same ∙ put_same m.amount j 0))
      | inr other ↦ h k (λ none. some (put_other m.amount j 0 k other ∙ none))
    ]

-- what each step keeps holds at the end
kept : (P : Moved → Type 0) (Q : ℕ → Type 0) (f : Moved → ℕ → Moved) → ((m : Moved) (x : ℕ) → Q x → P m → P (f m x)) → (xs : List ℕ) → All Q xs → (m : Moved) → P m → P (fold f m xs)
kept P Q f step [] all m h = h
kept P Q f step (x ∷ xs) all m h = kept P Q f step xs (All-tail Q x xs all) (f m x) (step m x (All-head Q x xs all) h)

module _ (code : Code) (soft : List ℤ) (word : List Bool) where
  moved_to : (e : ℕ) (m : Moved) (j : ℕ) → IsIn code e j → IsTo code m → IsTo code (move_to code soft word e m j)
  moved_to e m j here h = either (m.amount j == 0)
    where
      d : ℕ
      d = amount_for code soft word m e j

      either : (b : Bool) → IsTo code (cond b (record { target = put m.target j e; amount = put m.amount j d }) m)
      either true = put_to code m j e d h (λ _. here)
      either false = h

  greedy_to : IsTo code (greedy code soft word)
  greedy_to =
      kept (IsTo code) (λ e. e < code.bits) (serve code soft word) (λ m e low. kept (IsTo code) (λ j. IsIn code e j) (move_to code soft word e) (λ m' j. moved_to e m' j) (checks_of code e) (λ k d within. (
      let at = check_at code e k d within in place_in_members code e (get_or (checks_of code e) k d) low at.1
      )) m) (filter (differs soft word) (upto code.bits)) (All-filter (differs soft word) (λ e. e < code.bits) (upto code.bits) (upto_below code.bits)) none_moved (λ j some. absurd (some refl))

  spread_to : (m : Moved) (j : ℕ) → IsTo code m → IsTo code (spread_check code soft word m j)
  spread_to m j h =
      let back = give_back m j in
      let f = rest_at code soft word spread_scale back in
      let ms = members code j in
      let e = least_member f ms in
      let all : All (λ i. IsIn code i j) ms = λ k d within. place_in_members code (get_or ms k d) j (members_below code j k d within) (filter_passes (code.has j) (upto code.bits) k d within) in
      put_to code back j e (amount_to f ms e) (back_to code m j h) (λ some. elim (cases_Bool (nat_lt 1 (length ms))) [
        | inl two ↦ (let more : 2 ≤ length ms = (let t = ltb-true 1 (length ms) two in omega arith) in least_holds f (λ i. IsIn code i j) ms (omega arith) all)
        | inr few ↦ absurd (some (cond-false (nat_lt 1 (length ms)) _ 0 few))
      ])

  pass_to : (m : Moved) → IsTo code m → IsTo code (spread_pass code soft word m)
  pass_to m h =
      kept (IsTo code) (λ j. j < code.checks) (spread_check code soft word) (λ m' j _. spread_to m' j) (upto code.checks) (upto_below code.checks) m h

-- ---- the list of such moves

abbrev move_at : Code → Moved → ℕ → Move
move_at code m j =
    cond (m.amount j == 0) no_move (record { place = position_or_len (λ i. i == m.target j) (members code j); amount = m.amount j })

held_at : (code : Code) (m : Moved) (j : ℕ) → IsTo code m → 1 ≤ length (members code j) → IsHeld code j (m.target j) (m.amount j) (move_at code m j)
held_at code m j h some =
    let t = m.target j in
    let a = m.amount j in
    let made : Move = record { place = position_or_len (λ i. i == t) (members code j); amount = a } in
    elim (cases_eq a 0) [
      | inl none ↦ held_as code j t t a a no_move (move_at code m j) refl refl (ap (λ b. cond b no_move made) (eq-eqb a 0 none)) (record { place = some; amount_is = sym none; target_is = λ moved. absurd (moved none); unmoved = λ _. refl })
      | inr moved ↦ held_as code j t t a a made (move_at code m j) refl refl (ap (λ b. cond b no_move made) (ne_eqb a 0 moved)) (record { place = h j moved; amount_is = refl; target_is = λ _. eqb-true (get_or (members code j) made.place 0) t (passes_at_first (λ i. i == t) (members code j) 0 (h j moved)); unmoved = λ none. absurd (moved none) })
    ]

all_held : (r : Rows) (m : Moved) → IsTo (code_of r) m → AreHeldMoves (code_of r) m (map (move_at (code_of r) m) (upto (code_of r).checks))
all_held r m h =
    let code = code_of r in
    let f = move_at code m in
    let all = length-range_with_len 0 code.checks in
    record {
      long = length-map (upto code.checks) f ∙ all;
      each = λ j low. (
          let place : get_or (upto code.checks) j 0 ≡ j = omega (arith, get_or-range_with_len 0 code.checks j 0 low) in
          let at = get_or-map f (upto code.checks) j 0 no_move (omega (arith, low, all)) ∙ ap f place in
          held_as code j (m.target j) (m.target j) (m.amount j) (m.amount j) (f j) (get_or (map f (upto code.checks)) j no_move) refl refl at (held_at code m j h (some_member r j low))
          );
    }

-- the moves of a split have its shares
abbrev pub AreBack : Code → List Bool → Split → Type 0
AreBack code word split = all_shares code (placed_of code word 1 (moves_of code word split)) ≡ all_shares code split

module _ (r : Rows) (soft : List ℤ) (word : List Bool) where
  back : (s : ℕ) (m : Moved) → IsTo (code_of r) m → AreBack (code_of r) word (moves word s m.target m.amount)
  back s m h =
      let ms = map (move_at (code_of r) m) (upto (code_of r).checks) in
      let held = all_held r m h in
      ap (λ (l : List Move). all_shares (code_of r) (placed_of (code_of r) word 1 l)) (same_moves (code_of r) word s m ms held) ∙ sym (same_shares (code_of r) word s m ms held)

  one_more : (b : Bool) (m : Moved) (other : Option Moved) → IsTo (code_of r) m → IfSome (split_by word spread_scale other) (AreBack (code_of r) word) → IfSome (split_by word spread_scale (cond b (Some m) other)) (AreBack (code_of r) word)
  one_more true m other h g = back spread_scale m h
  one_more false m other h g = g

  spread_back : (n : ℕ) (m : Moved) → IsTo (code_of r) m → IfSome (split_by word spread_scale (spread (code_of r) soft word n m)) (AreBack (code_of r) word)
  unfolding spread
  spread_back zero m h = one_more (has_no_negative_rest (code_of r) soft word spread_scale m) m None h tt
  spread_back (suc n) m h =
      one_more (has_no_negative_rest (code_of r) soft word spread_scale m) m (spread (code_of r) soft word n (spread_pass (code_of r) soft word m)) h (spread_back n (spread_pass (code_of r) soft word m) (pass_to (code_of r) soft word m h))

  pub made_back : IfSome (made_split (code_of r) soft word) (AreBack (code_of r) word)
  made_back = go (has_no_negative_rest (code_of r) soft word 1 g)
    where
      g : Moved
      g = greedy (code_of r) soft word

      go : (b : Bool) → IfSome (cond b (Some (moves word 1 g.target g.amount)) (split_by word spread_scale (spread (code_of r) soft word max_spread_passes none_moved))) (AreBack (code_of r) word)
      go true = back 1 g (greedy_to (code_of r) soft word)
      go false = spread_back max_spread_passes none_moved (λ j some. absurd (some refl))
