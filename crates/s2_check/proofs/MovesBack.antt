-- The moves that the shares of moves are, are these moves.
use Rattle.std.proofs.Common.{◌≡◌, ℕ, ◌≤◌, ◌<◌, ◌==◌, Bool, true, false, cond, List, length, map, get_or, ℤ, pos, neg_ℤ, int_lt, unsigned_abs, inl, inr, refl, sym, ap, ap₂, ◌∙◌, arith, eq-eqb, ne_eqb}
use Rattle.std.specs.List.{position_or_len}
use Rattle.std.proofs.lemmas.Bool.{cases_Bool, cases_eq}
use Rattle.std.proofs.lemmas.Int.{ints}
use Rattle.std.proofs.lemmas.List.{same_lists, length-map, get_or-map, get_or_default}
use Rattle.std.proofs.lemmas.List.Sums.{position_or_len_is}
use Rattle.std.proofs.lemmas.List.FromFn.{length-range_with_len, get_or-range_with_len}
use Rattle.s2_bits.specs.Bits.{bit_at}
use Rattle.s2_matrix.specs.Code.{Code, members}
use Rattle.s2_matrix.specs.Total.{upto}
use Rattle.s2_matrix.proofs.Members.{members_rising}
use Rattle.s2_check.specs.Moves.{Move, no_move, in_favour, placed_of, AreTargets}
use Rattle.s2_check.specs.MovesOf.{move_of, moves_of, MovesBack}
use Rattle.s2_check.proofs.Places.{same_place}

-- a share in favour of the word
abbrev signed : Bool → ℕ → ℤ
signed target a = cond target (neg_ℤ (pos a)) (pos a)

favour_twice : (b : Bool) (v : ℤ) → cond b (neg_ℤ (cond b (neg_ℤ v) v)) (cond b (neg_ℤ v) v) ≡ v
favour_twice true v = omega (arith, ints)
favour_twice false v = refl

size_of : (b : Bool) (a : ℕ) → unsigned_abs (signed b a) ≡ a
size_of true a = omega (arith, ints)
size_of false a = omega (arith, ints)

below : (b : Bool) (a : ℕ) → 1 ≤ a → int_lt (signed b a) (pos 0) ≡ b
below true a some =
    elim (cases_Bool (int_lt (neg_ℤ (pos a)) (pos 0))) [ inl less ↦ less | inr none ↦ absurd (omega (arith, ints, some, none)) ]
below false a some =
    elim (cases_Bool (int_lt (pos a) (pos 0))) [ inl less ↦ absurd (omega (arith, ints, less)) | inr none ↦ none ]

-- a list of shares whose sizes are an amount, and of which that at a place is negative
move_is : (xs : List ℤ) (m : Move) → unsigned_abs (get_or xs 0 (pos 0)) ≡ m.amount → (m.amount ≡ 0 → m.place ≡ 0) → (1 ≤ m.amount → position_or_len (λ x. int_lt x (pos 0)) xs ≡ m.place) → move_of xs ≡ m
move_is xs m size unmoved place =
    let p = position_or_len (λ x. int_lt x (pos 0)) xs in
    let place_is : cond (unsigned_abs (get_or xs 0 (pos 0)) == 0) 0 p ≡ m.place = ap (λ n. cond (n == 0) 0 p) size ∙ elim (cases_eq m.amount 0) [
      | inl none ↦ ap (λ b. cond b 0 p) (eq-eqb m.amount 0 none) ∙ sym (unmoved none)
      | inr some ↦ ap (λ b. cond b 0 p) (ne_eqb m.amount 0 some) ∙ place (omega (arith, some))
    ] in
    ap₂ (λ (p a : ℕ). record { place = p; amount = a }) place_is size

-- the shares of a check in favour of the word
abbrev shares_at : Code → List Bool → ℕ → List Move → ℕ → List ℤ
shares_at code word scale ms j =
    map (λ i. in_favour word i ((placed_of code word scale ms).share j i)) (members code j)

share_at : (code : Code) (word : List Bool) (scale : ℕ) (ms : List Move) (j k : ℕ) → AreTargets code ms → j < code.checks → k < length (members code j) → get_or (shares_at code word scale ms j) k (pos 0) ≡ signed (k == (get_or ms j no_move).place) (get_or ms j no_move).amount
share_at code word scale ms j k h low within =
    let own = get_or ms j no_move in
    let i = get_or (members code j) k 0 in
    let t = get_or (members code j) own.place 0 in
    get_or-map (λ i. in_favour word i ((placed_of code word scale ms).share j i)) (members code j) k 0 (pos 0) within ∙ favour_twice (bit_at word i) (signed (i == t) own.amount) ∙ ap (λ b. signed b own.amount) (same_place (members code j) k own.place (members_rising code j) within (h j low))

move_back : (code : Code) (word : List Bool) (scale : ℕ) (ms : List Move) (j : ℕ) → AreTargets code ms → ((get_or ms j no_move).amount ≡ 0 → (get_or ms j no_move).place ≡ 0) → j < code.checks → move_of (shares_at code word scale ms j) ≡ get_or ms j no_move
move_back code word scale ms j h unmoved low =
    let own = get_or ms j no_move in
    let xs = shares_at code word scale ms j in
    let there = h j low in
    let long : length xs ≡ length (members code j) = length-map (members code j) (λ i. in_favour word i ((placed_of code word scale ms).share j i)) in
    let at = λ (k : ℕ) (within : k < length (members code j)). share_at code word scale ms j k h low within in
    let size = ap unsigned_abs (at 0 (omega (arith, there))) ∙ size_of (0 == own.place) own.amount in
    move_is xs own size unmoved (λ some. position_or_len_is (λ x. int_lt x (pos 0)) xs own.place (pos 0) (omega (arith, there, long)) (λ k less. ap (λ x. int_lt x (pos 0)) (at k (omega (arith, there, less))) ∙ below (k == own.place) own.amount some ∙ ne_eqb k own.place (λ same. omega (arith, same, less))) (λ within. ap (λ x. int_lt x (pos 0)) (at own.place there) ∙ below (own.place == own.place) own.amount some ∙ eq-eqb own.place own.place refl))

-- of moves to members, to place 0 where nothing is moved
pub moves_listed : (code : Code) (word : List Bool) (scale : ℕ) (ms : List Move) → length ms ≡ code.checks → AreTargets code ms → ((j : ℕ) → j < code.checks → (get_or ms j no_move).amount ≡ 0 → (get_or ms j no_move).place ≡ 0) → moves_of code word (placed_of code word scale ms) ≡ ms
moves_listed code word scale ms all h unmoved =
    let f = λ (j : ℕ). move_of (shares_at code word scale ms j) in
    let n = code.checks in
    let long : length (map f (upto n)) ≡ n = length-map (upto n) f ∙ length-range_with_len 0 n in
    same_lists (map f (upto n)) ms (long ∙ sym all) (λ k d within. (
    let low : k < n = omega (arith, within, long) in
    let listed : k < length (upto n) = omega (arith, low, length-range_with_len 0 n) in
    let place : get_or (upto n) k 0 ≡ k = omega (arith, get_or-range_with_len 0 n k 0 low) in
    let there : k < length ms = omega (arith, low, all) in
    get_or-map f (upto n) k 0 d listed ∙ ap f place ∙ move_back code word scale ms k h (unmoved k low) low ∙ get_or_default ms k no_move d there
    ))

pub moves_back : MovesBack
moves_back code word scale ms h = moves_listed code word scale ms h.moves.long h.moves.targets (λ j low. h.moves.unmoved j)
