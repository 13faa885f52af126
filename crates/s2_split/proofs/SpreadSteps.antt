-- The lists after one check has spread.
use Rattle.std.proofs.Common.{◌≡◌, ◌≢◌, ℕ, ◌<◌, ◌≤◌, ◌==◌, nat_lt, Bool, true, false, not, cond, List, [], ◌∷◌, length, get_or, set, map, filter, fold, All, ℤ, pos, neg_ℤ, ◌+ℤ◌, ◌-ℤ◌, ◌≤ℤ◌, int_lt, inl, inr, refl, sym, ap, ap₂, subst, ◌∙◌, arith, ne_eqb}
use Rattle.std.specs.Int.{int_min}
use Rattle.std.specs.List.{AllPairs, list_any}
use Rattle.std.proofs.lemmas.Bool.{cases_Bool, cases_eq, cases_lt, cond-false, ltb-true}
use Rattle.std.proofs.lemmas.Int.{ints}
use Rattle.std.proofs.lemmas.List.{set-get_or, get_or_past, get_or-map, length-map}
use Rattle.std.proofs.lemmas.List.FromFn.{length-range_with_len, get_or-range_with_len}
use Rattle.std.proofs.lemmas.List.Elements.{All-filter, All-head, All-tail}
use Rattle.s2_matrix.specs.Code.{Code, members}
use Rattle.s2_matrix.proofs.Members.{members_below}
use Rattle.std.proofs.lemmas.List.Folds.{list_any_none}
use Rattle.s2_matrix.specs.Total.{upto}
use Rattle.s2_check.specs.Moves.{Move, no_move, max_moved}
use Rattle.s2_split.specs.Scattered.{least_of}
use Rattle.s2_split.specs.Greedy.{Moved, rest_at, put}
use Rattle.s2_split.specs.Spreading.{least_member, spread_amount, amount_to, give_back, spread_check, spread_scale}
use Rattle.s2_split.specs.Kept.{max_between, taken_at, given_back, AreRests, IsHeld, AreKept}
use Rattle.s2_split.proofs.FittingLemmas.{none_given'}
use Rattle.s2_split.proofs.GreedyLemmas.{put_same, put_other}
use Rattle.s2_split.proofs.Shifts.{given, rest_change, taken_back}
use Rattle.s2_split.proofs.Others.{least_is_fold}
use Rattle.s2_check.proofs.BoundListed.{map-same_in}
use Rattle.s2_split.proofs.Steps.{with_move, rests_given, held_as, held_own, moves_after}

-- ---- what is moved

pub gap_is : (f : ℕ → ℤ) (ms : List ℕ) (e : ℕ) (rest other : ℤ) → AllPairs (λ a b. a < b) ms → ((k : ℕ) → f k ≤ℤ pos max_between) → (1 ≤ length ms → rest ≡ f e) → other ≡ fold int_min (pos 2147483647) (map f (filter (λ i. not (i == e)) ms)) → cond (nat_lt 1 (length ms)) (spread_amount rest other) 0 ≡ amount_to f ms e
gap_is f ms e rest other rising small is other_is =
    elim (cases_Bool (nat_lt 1 (length ms))) [
      | inl two ↦ (
          let more : 2 ≤ length ms = (let t = ltb-true 1 (length ms) two in omega arith) in
          let same = other_is ∙ least_is_fold f e ms rising more small in
          ap (λ v. cond (nat_lt 1 (length ms)) v 0) (ap₂ spread_amount (is (omega arith)) same)
          )
      | inr few ↦ cond-false (nat_lt 1 (length ms)) (spread_amount rest other) 0 few ∙ sym (cond-false (nat_lt 1 (length ms)) (spread_amount (f e) (least_of (map f (filter (λ i. not (i == e)) ms)))) 0 few)
    ]

fold_same : (f g : ℕ → ℤ) (b : ℕ) (xs : List ℕ) → f b ≡ g b → All (λ x. f x ≡ g x) xs → fold (λ best k. cond (int_lt (f k) (f best)) k best) b xs ≡ fold (λ best k. cond (int_lt (g k) (g best)) k best) b xs
fold_same f g b [] here all = refl
fold_same f g b (x ∷ xs) here all =
    let fx = All-head (λ y. f y ≡ g y) x xs all in
    let next = cond (int_lt (f x) (f b)) x b in
    let next' = cond (int_lt (g x) (g b)) x b in
    let same : next ≡ next' = ap₂ (λ u v. cond (int_lt u v) x b) fx here in
    let at : f next ≡ g next = either (int_lt (f x) (f b)) fx here in
    fold_same f g next xs at (All-tail (λ y. f y ≡ g y) x xs all) ∙ ap (λ n. fold (λ best k. cond (int_lt (g k) (g best)) k best) n xs) same
  where
    either : (t : Bool) → f x ≡ g x → f b ≡ g b → f (cond t x b) ≡ g (cond t x b)
    either true ex eb = ex
    either false ex eb = eb

pub least_member_same : (f g : ℕ → ℤ) (xs : List ℕ) → All (λ x. f x ≡ g x) xs → least_member f xs ≡ least_member g xs
least_member_same f g [] all = refl
least_member_same f g (x ∷ xs) all =
    fold_same f g x xs (All-head (λ y. f y ≡ g y) x xs all) (All-tail (λ y. f y ≡ g y) x xs all)

-- in a check with two members or more the least member is one of them
least_here : (f : ℕ → ℤ) (P : ℕ → Type 0) (b : ℕ) (xs : List ℕ) → P b → All P xs → P (fold (λ best k. cond (int_lt (f k) (f best)) k best) b xs)
least_here f P b [] here all = here
least_here f P b (x ∷ xs) here all =
    least_here f P (cond (int_lt (f x) (f b)) x b) xs (either (int_lt (f x) (f b))) (All-tail P x xs all)
  where
    either : (t : Bool) → P (cond t x b)
    either true = All-head P x xs all
    either false = here

pub least_holds : (f : ℕ → ℤ) (P : ℕ → Type 0) (xs : List ℕ) → 1 ≤ length xs → All P xs → P (least_member f xs)
least_holds f P [] some all = absurd (omega arith)
least_holds f P (x ∷ xs) some all = least_here f P x xs (All-head P x xs all) (All-tail P x xs all)

pub amount_same : (f g : ℕ → ℤ) (xs : List ℕ) → All (λ x. f x ≡ g x) xs → amount_to f xs (least_member f xs) ≡ amount_to g xs (least_member g xs)
amount_same f g xs all =
    let e = least_member f xs in
    let p = λ (i : ℕ). not (i == e) in
    let least = ap least_of (map-same_in f g (filter p xs) (All-filter p (λ x. f x ≡ g x) xs all)) in
    let same = least_member_same f g xs all in
    elim (cases_Bool (nat_lt 1 (length xs))) [
      | inl two ↦ (
          let more : 2 ≤ length xs = (let t = ltb-true 1 (length xs) two in omega arith) in
          let here : f e ≡ g e = least_holds f (λ x. f x ≡ g x) xs (omega arith) all in
          ap (λ v. cond (nat_lt 1 (length xs)) v 0) (ap₂ spread_amount here least) ∙ ap (amount_to g xs) same
          )
      | inr few ↦ cond-false (nat_lt 1 (length xs)) (spread_amount (f e) (least_of (map f (filter p xs)))) 0 few ∙ sym (cond-false (nat_lt 1 (length xs)) (spread_amount (g (least_member g xs)) (least_of (map g (filter (λ i. not (i == least_member g xs)) xs)))) 0 few)
    ]

-- ---- the step

back_is : (b : Bool) (g g' r : ℤ) → g' ≡ pos 0 → r -ℤ neg_ℤ (cond b g (pos 0)) ≡ r +ℤ cond b (g -ℤ g') (pos 0)
back_is true g g' r e = omega (arith, ints, e)
back_is false g g' r e = omega (arith, ints)

pub rests_back : (code : Code) (soft : List ℤ) (word : List Bool) (s : ℕ) (m : Moved) (j : ℕ) (rests rests' : List ℤ) → AreRests code soft word s m rests → j < code.checks → length rests' ≡ length rests → ((k : ℕ) → get_or rests' k (pos 0) ≡ get_or rests k (pos 0) -ℤ taken_at (members code j) (m.target j) (neg_ℤ (pos (m.amount j))) k) → AreRests code soft word s (give_back m j) rests'
rests_back code soft word s m j rests rests' r h long is = record {
  long = long ∙ r.long;
  are = λ i low. (
      let m' = give_back m j in
      let none : given m' i j ≡ pos 0 = none_given' (m.target j) (put m.amount j 0 j) i (put_same m.amount j 0) in
      let change = rest_change code soft word s m m' i j h (λ k other. (refl, put_other m.amount j 0 k other)) in
      let held = is i ∙ ap (λ v. get_or rests i (pos 0) -ℤ v) (taken_back code i j (m.target j) (m.amount j) low) ∙ back_is (code.has j i) (given m i j) (given m' i j) (get_or rests i (pos 0)) none in
      held ∙ ap (λ v. v +ℤ cond (code.has j i) (given m i j -ℤ given m' i j) (pos 0)) (r.are i low) ∙ sym change
      );
  small = λ k low. elim (cases_eq k j) [
    | inl same ↦ (let a = ap (put m.amount j 0) same ∙ put_same m.amount j 0 in omega arith)
    | inr other ↦ (let a = put_other m.amount j 0 k other in omega (arith, r.small k low))
  ];
}

-- nothing is taken where nothing is moved
either_none : (b c : Bool) → cond b (cond c (neg_ℤ (neg_ℤ (pos 0))) (neg_ℤ (pos 0))) (pos 0) ≡ pos 0
either_none true true = refl
either_none true false = refl
either_none false c = refl

pub taken_none : (ms : List ℕ) (t k : ℕ) → taken_at ms t (neg_ℤ (pos 0)) k ≡ pos 0
taken_none ms t k = either_none (list_any (λ m. m == k) ms) (k == t)

-- the target of what isn't moved doesn't matter
taken_same : (ms : List ℕ) (t t' a a' k : ℕ) → a ≡ a' → (a' ≢ 0 → t ≡ t') → taken_at ms t (neg_ℤ (pos a)) k ≡ taken_at ms t' (neg_ℤ (pos a')) k
taken_same ms t t' a a' k same to =
    elim (cases_eq a' 0) [
      | inl none ↦ ap (λ v. taken_at ms t (neg_ℤ (pos v)) k) (same ∙ none) ∙ taken_none ms t k ∙ sym (ap (λ v. taken_at ms t' (neg_ℤ (pos v)) k) none ∙ taken_none ms t' k)
      | inr some ↦ ap₂ (λ u v. taken_at ms u (neg_ℤ (pos v)) k) (to some) same
    ]

taken_to : (ms : List ℕ) (t t' a k : ℕ) → (a ≢ 0 → t ≡ t') → taken_at ms t (pos a) k ≡ taken_at ms t' (pos a) k
taken_to ms t t' a k to =
    elim (cases_eq a 0) [
      | inl none ↦ ap (λ v. taken_at ms t (pos v) k) none ∙ taken_none ms t k ∙ sym (ap (λ v. taken_at ms t' (pos v) k) none ∙ taken_none ms t' k)
      | inr some ↦ ap (λ u. taken_at ms u (pos a) k) (to some)
    ]

-- the member at a move's place
abbrev pub target_of : Code → ℕ → Move → ℕ
target_of code j own = get_or (members code j) own.place 0

-- what these members move, to the one with the least rest
pub record IsHeldAmong (ms : List ℕ) (f : ℕ → ℤ) (own : Move) : Type 0 where
  pub place : own.place < length ms
  pub amount_is : own.amount ≡ amount_to f ms (least_member f ms)
  pub target_is : own.amount ≢ 0 → get_or ms own.place 0 ≡ least_member f ms
  pub unmoved : own.amount ≡ 0 → own.place ≡ 0

pub among_held : (code : Code) (j : ℕ) (f : ℕ → ℤ) (own : Move) → IsHeldAmong (members code j) f own → IsHeld code j (least_member f (members code j)) (amount_to f (members code j) (least_member f (members code j))) own
among_held code j f own h = record {
  place = h.place;
  amount_is = h.amount_is;
  target_is = λ some. h.target_is (λ none. some (sym h.amount_is ∙ none));
  unmoved = λ none. h.unmoved (h.amount_is ∙ none);
}

pub spread_step : (code : Code) (soft : List ℤ) (word : List Bool) (m : Moved) (j : ℕ) (own : Move) (rests rests1 rests2 : List ℤ) (moves : List Move) → AreKept code soft word spread_scale m rests moves → j < code.checks → length rests1 ≡ length rests → ((k : ℕ) → get_or rests1 k (pos 0) ≡ get_or rests k (pos 0) -ℤ taken_at (members code j) (target_of code j (get_or moves j no_move)) (neg_ℤ (pos (get_or moves j no_move).amount)) k) → IsHeld code j (least_member (λ i. get_or rests1 i (pos 0)) (members code j)) (amount_to (λ i. get_or rests1 i (pos 0)) (members code j) (least_member (λ i. get_or rests1 i (pos 0)) (members code j))) own → own.amount ≤ max_moved → length rests2 ≡ length rests1 → ((k : ℕ) → get_or rests2 k (pos 0) ≡ get_or rests1 k (pos 0) -ℤ taken_at (members code j) (target_of code j own) (pos own.amount) k) → AreKept code soft word spread_scale (spread_check code soft word m j) rests2 (set moves j own)
unfolding with_move
spread_step code soft word m j own rests rests1 rests2 moves kept h long1 is1 here small long2 is2 =
    let m1 = give_back m j in
    let ms = members code j in
    let d = own.amount in
    let was = get_or moves j no_move in
    let held = kept.held.each j h in
    let f = λ (i : ℕ). get_or rests1 i (pos 0) in
    let g = rest_at code soft word spread_scale m1 in
    let back = rests_back code soft word spread_scale m j rests rests1 kept.left h long1 (λ k. is1 k ∙ ap (λ v. get_or rests k (pos 0) -ℤ v) (taken_same ms (target_of code j was) (m.target j) was.amount (m.amount j) k held.amount_is held.target_is)) in
    let all : All (λ x. f x ≡ g x) ms = λ k d' within. back.are (get_or ms k d') (members_below code j k d' within) in
    let e = least_member g ms in
    let to : least_member f ms ≡ e = least_member_same f g ms all in
    let amount : d ≡ amount_to g ms e = here.amount_is ∙ amount_same f g ms all in
    let is : with_move m1 j e d ≡ spread_check code soft word m j = ap (with_move m1 j e) amount in
    let own_is : IsHeld code j e d own = held_as code j (least_member f ms) e d d own own (sym to) refl refl (held_own code j (least_member f ms) (amount_to f ms (least_member f ms)) own here) in
    subst (λ (n : Moved). AreKept code soft word spread_scale n rests2 (set moves j own)) is (record {
      left = rests_given code soft word spread_scale m1 j e d rests1 rests2 back h (put_same m.amount j 0) small long2 (λ k. is2 k ∙ ap (λ v. get_or rests1 k (pos 0) -ℤ v) (taken_to ms (target_of code j own) e d k own_is.target_is));
      held = moves_after code m m1 j e d own moves kept.held h own_is (λ k other. (refl, put_other m.amount j 0 k other));
    })

-- what is given back and moved again
taken_again : (b c : Bool) (a : ℕ) → cond b (cond c (neg_ℤ (neg_ℤ (pos a))) (neg_ℤ (pos a))) (pos 0) +ℤ cond b (cond c (neg_ℤ (pos a)) (pos a)) (pos 0) ≡ pos 0
taken_again true true a = omega (arith, ints)
taken_again true false a = omega (arith, ints)
taken_again false c a = refl

-- a move that is made again leaves the rests as they were
pub same_rests : (rests : List ℤ) (ms : List ℕ) (held own : Move) → own ≡ held → (k : ℕ) → get_or rests k (pos 0) ≡ given_back rests ms held k -ℤ taken_at ms (get_or ms own.place 0) (pos own.amount) k
same_rests rests ms held own same k =
    let again = ap (λ (v : Move). taken_at ms (get_or ms v.place 0) (pos v.amount) k) same in
    let none = taken_again (list_any (λ m. m == k) ms) (k == get_or ms held.place 0) held.amount in
    omega (arith, ints, again, none)

-- nothing is taken from a place past all members
none_past : (ms : List ℕ) (n k t : ℕ) (a : ℤ) → All (λ i. i < n) ms → n ≤ k → taken_at ms t a k ≡ pos 0
none_past ms n k t a below past =
    let none = list_any_none (λ m. m == k) ms (λ p d within. ne_eqb (get_or ms p d) k (λ same. (let low = below p d within in omega arith))) in
    ap (λ b. cond b (cond (k == t) (neg_ℤ a) a) (pos 0)) none

listed_at : (f : ℕ → ℤ) (n k : ℕ) → (n ≤ k → f k ≡ pos 0) → get_or (map f (upto n)) k (pos 0) ≡ f k
listed_at f n k past =
    elim (cases_lt k n) [
      | inl low ↦ (
          let place : get_or (upto n) k 0 ≡ k = omega (arith, get_or-range_with_len 0 n k 0 low) in
          get_or-map f (upto n) k 0 (pos 0) (omega (arith, length-range_with_len 0 n)) ∙ ap f place
          )
      | inr high ↦ get_or_past (map f (upto n)) k (pos 0) (omega (arith, length-map (upto n) f, length-range_with_len 0 n)) ∙ sym (past high)
    ]

-- a check's move is given back, and another is made
pub anew_step : (code : Code) (soft : List ℤ) (word : List Bool) (m : Moved) (j : ℕ) (own : Move) (rests rests2 : List ℤ) (moves : List Move) → AreKept code soft word spread_scale m rests moves → j < code.checks → IsHeldAmong (members code j) (given_back rests (members code j) (get_or moves j no_move)) own → own.amount ≤ max_moved → length rests2 ≡ length rests → ((k : ℕ) → get_or rests2 k (pos 0) ≡ given_back rests (members code j) (get_or moves j no_move) k -ℤ taken_at (members code j) (target_of code j own) (pos own.amount) k) → AreKept code soft word spread_scale (spread_check code soft word m j) rests2 (set moves j own)
anew_step code soft word m j own rests rests2 moves kept h among few long is =
    let ms = members code j in
    let was = get_or moves j no_move in
    let f = given_back rests ms was in
    let rests1 = map f (upto code.bits) in
    let g = λ (k : ℕ). get_or rests1 k (pos 0) in
    let nothing = λ (k : ℕ) (past : code.bits ≤ k). (
    let none = none_past ms code.bits k (target_of code j was) (neg_ℤ (pos was.amount)) (members_below code j) past in
    let rest = get_or_past rests k (pos 0) (omega (arith, kept.left.long)) in
    let zero : f k ≡ pos 0 = omega (arith, ints, none, rest) in zero
    ) in
    let at = λ (k : ℕ). listed_at f code.bits k (nothing k) in
    let all : All (λ x. f x ≡ g x) ms = λ k d within. sym (at (get_or ms k d)) in
    let to = least_member_same f g ms all in
    let here : IsHeldAmong ms g own = record {
      place = among.place;
      amount_is = among.amount_is ∙ amount_same f g ms all;
      target_is = λ some. among.target_is some ∙ to;
      unmoved = among.unmoved;
    } in
    let long1 : length rests1 ≡ length rests = length-map (upto code.bits) f ∙ length-range_with_len 0 code.bits ∙ sym kept.left.long in
    spread_step code soft word m j own rests rests1 rests2 moves kept h long1 at (among_held code j g own here) few (long ∙ sym long1) (λ k. is k ∙ ap (λ v. v -ℤ taken_at ms (target_of code j own) (pos own.amount) k) (sym (at k)))

-- ---- a check that is passed over

not_below : (a : ℤ) → pos 0 ≤ℤ a → int_lt a (pos 0) ≡ false
not_below a h = grind (arith, ints)

not_negative : (b : Bool) (a : ℤ) (n : ℕ) → pos 0 ≤ℤ a → cond b (cond (int_lt a (pos 0)) n 0) 0 ≡ 0
not_negative true a n h = cond-false (int_lt a (pos 0)) n 0 (not_below a h)
not_negative false a n h = refl

-- members without a negative value move nothing
nothing_moved : (f : ℕ → ℤ) (ms : List ℕ) → All (λ i. pos 0 ≤ℤ f i) ms → amount_to f ms (least_member f ms) ≡ 0
nothing_moved f ms all =
    elim (cases_Bool (nat_lt 1 (length ms))) [
      | inl two ↦ (
          let more : 2 ≤ length ms = (let t = ltb-true 1 (length ms) two in omega arith) in
          let least = least_holds f (λ i. pos 0 ≤ℤ f i) ms (omega arith) all in
          not_negative (nat_lt 1 (length ms)) (f (least_member f ms)) _ least
          )
      | inr few ↦ cond-false (nat_lt 1 (length ms)) _ 0 few
    ]

-- a check that holds no amount, and none of whose members has a negative rest
pub idle_step : (code : Code) (soft : List ℤ) (word : List Bool) (m : Moved) (j : ℕ) (rests : List ℤ) (moves : List Move) → AreKept code soft word spread_scale m rests moves → j < code.checks → (get_or moves j no_move).amount ≡ 0 → All (λ i. pos 0 ≤ℤ get_or rests i (pos 0)) (members code j) → AreKept code soft word spread_scale (spread_check code soft word m j) rests moves
idle_step code soft word m j rests moves kept h none_held all =
    let ms = members code j in
    let f = λ (i : ℕ). get_or rests i (pos 0) in
    let own = get_or moves j no_move in
    let t = target_of code j own in
    let was = kept.held.each j h in
    let none : amount_to f ms (least_member f ms) ≡ 0 = nothing_moved f ms all in
    let here : IsHeld code j (least_member f ms) (amount_to f ms (least_member f ms)) own = record {
      place = was.place;
      amount_is = none_held ∙ sym none;
      target_is = λ some. absurd (some none);
      unmoved = λ _. was.unmoved (sym was.amount_is ∙ none_held);
    } in
    let stays = λ (k : ℕ). (let nil = ap (λ a. taken_at ms t (neg_ℤ (pos a)) k) none_held ∙ taken_none ms t k in let same : f k ≡ f k -ℤ taken_at ms t (neg_ℤ (pos own.amount)) k = omega (arith, ints, nil) in same) in
    let still = λ (k : ℕ). (let nil = ap (λ a. taken_at ms t (pos a) k) none_held ∙ taken_none ms t k in let same : f k ≡ f k -ℤ taken_at ms t (pos own.amount) k = omega (arith, ints, nil) in same) in
    let after = spread_step code soft word m j own rests rests rests moves kept h refl stays here (omega (arith, none_held)) refl still in
    subst (λ (l : List Move). AreKept code soft word spread_scale (spread_check code soft word m j) rests l) (set-get_or moves j no_move) after
