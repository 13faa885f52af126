-- What the lanes of a layer show of its checks.
use Rattle.std.proofs.Common.{◌≡◌, ℕ, ◌+◌, ◌-◌, ◌*◌, ◌%◌, ◌<◌, ◌≤◌, ◌==◌, ◌&&◌, not, Bool, true, false, cond, List, length, get_or, All, pos, ◌+ℤ◌, ◌-ℤ◌, eqb, unsigned_abs, refl, ap, sym, subst, ◌∙◌, inl, inr, arith, lt-ltb}
use Rattle.std.specs.List.{position_or_len}
use Rattle.std.proofs.Math.Nat.{mul-le-mul_right}
use Rattle.std.proofs.lemmas.Bool.{cases_Bool, cases_eq}
use Rattle.std.proofs.lemmas.List.{get_or-map, length-map, get_or_default}
use Rattle.std.proofs.lemmas.List.Elements.{filter_passes}
use Rattle.std.proofs.lemmas.Int.{ints}
use Rattle.s2_mode.specs.Shape.{code_bits, check_count}
use Rattle.s2_rows.specs.Rows.{Rows}
use Rattle.s2_matrix.specs.Total.{upto}
use Rattle.s2_matrix.specs.Code.{code_of, members, checks_of, is_member}
use Rattle.s2_matrix.proofs.Members.{members_rising, members_below, place_of, place_in_members}
use Rattle.s2_minsum.specs.declared.kernels.Circulant.{Circulant}
use Rattle.s2_minsum.specs.Rows.{no_entry, entry_at, cell, rotated, is_lacking}
use Rattle.s2_minsum.specs.Layout.{row_of_bit, lane_of_bit, bit_of, last_check, forth, back, entry_of, entry_count, lacked_row, entries_of}
use Rattle.s2_minsum.proofs.Places
use Rattle.s2_minsum.proofs.RotationFacts.{same_tests}
use Rattle.s2_minsum.proofs.Columns.{found, member_below, member_has, lacks, present, place_in}
use Rattle.s2_minsum.proofs.StepStates.{lane_of, layer_of}
use Rattle.s2_settle.specs.Rests.{given, moved16}
use Rattle.s2_settle.specs.declared.course.Step.{Step}
use Rattle.s2_settle.specs.Nodes.{free_of}
use Rattle.s2_settle.specs.Plain.{State, raise, rest, word, input, freed_by, further, new_target as to_target, new_amount as to_amount}
use Rattle.s2_settle.specs.Layer.{Held, of_layer, layer_inputs, new_target, new_amount}
use Rattle.s2_settle.specs.Placing.{shown, place_of_check}
use Rattle.s2_minsum.specs.Decoding.{AreFit}
use Rattle.s2_settle.specs.Shows.{ShowsMoves, Shows, IsWithin}
use Rattle.s2_settle.proofs.Layers.{upto_at}
use Rattle.s2_check.proofs.Places.{some_member}
use Rattle.s2_settle.proofs.RestWords.{signed, given_is, word_fits, further_none}
use Rattle.s2_settle.proofs.LaneMoves.{Has, Lanes, free_is, target_is, goes_further, freed_most}

pub signed_none : (x y : Bool) (a : ℕ) → a ≡ 0 → signed x a ≡ signed y a
signed_none true true a none = refl
signed_none true false a none = omega (arith, ints)
signed_none false true a none = omega (arith, ints)
signed_none false false a none = refl

-- a member by its place
pub of_has : (rows : Rows) (j y : ℕ) → Has (members (code_of rows) j) y → (y < code_bits rows.shape) × (is_member rows j y ≡ true)
of_has rows j y has =
    let ms = members (code_of rows) j in
    let p = position_or_len (λ m. m == y) ms in
    let is = found ms y has in
    (omega (arith, is, members_below (code_of rows) j p 0 has), ap (is_member rows j) (sym is) ∙ filter_passes (is_member rows j) (upto (code_bits rows.shape)) p 0 has)

all_have : (xs : List ℕ) → ((k : ℕ) → k < length xs → Has xs (get_or xs k 0)) → All (Has xs) xs
all_have xs each k d lt = subst (Has xs) (sym (get_or_default xs k d 0 lt)) (each k lt)

module _ (rows : Rows) (fit : AreFit rows) (r : ℕ) (layer : r < rows.shape.q) where
  abbrev pub bit : ℕ → ℕ
  bit e = get_or (members (code_of rows) (last_check rows.shape r)) e 0

  pub entries_long : length (entries_of rows r) ≡ entry_count rows r
  entries_long = length-map (members (code_of rows) (last_check rows.shape r)) (entry_of rows.shape)

  pub entry_is : (e : ℕ) → e < entry_count rows r → entry_at (entries_of rows r) e ≡ entry_of rows.shape (bit e)
  entry_is e lt = get_or-map (entry_of rows.shape) (members (code_of rows) (last_check rows.shape r)) e 0 no_entry lt

  pub turn_is : (c e : ℕ) → e < entry_count rows r → rotated rows.shape.group (rows.shape.group - 1 - lane_of_bit rows.shape (bit e)) c ≡ (lane_of_bit rows.shape (bit e) + 1 + c) % rows.shape.group
  turn_is c e lt =
      let low = Places.lane_below rows.shape fit.shaped (bit e) (member_below rows fit.shaped r layer e lt) in
      ap (λ v. v % rows.shape.group) (omega arith)

  pub shown_is : (c e : ℕ) → e < entry_count rows r → shown rows r c e ≡ forth rows.shape c (bit e)
  shown_is c e lt =
      let s = rows.shape in
      (λ i. cond (lt-ltb e (length (entries_of rows r)) (omega (arith, entries_long)) i) (bit_of s (entry_is e lt i).row (rotated s.group (entry_is e lt i).shift c)) 0)
      ∙ ap (bit_of s (row_of_bit s (bit e))) (turn_is c e lt)

  -- entries show other bits to one check
  pub apart : (c e e' : ℕ) → c < rows.shape.group → e < entry_count rows r → e' < entry_count rows r → forth rows.shape c (bit e) ≡ forth rows.shape c (bit e') → e ≡ e'
  apart c e e' small lt lt' same =
      let s = rows.shape in
      let ms = members (code_of rows) (last_check s r) in
      let b = sym (Places.back_forth s fit.shaped c (bit e) small (member_below rows fit.shaped r layer e lt)) ∙ ap (back s c) same ∙ Places.back_forth s fit.shaped c (bit e') small (member_below rows fit.shaped r layer e' lt') in
      let rising = members_rising (code_of rows) (last_check s r) in
      sym (place_of ms e rising lt) ∙ ap (λ x. position_or_len (λ m. m == x) ms) b ∙ place_of ms e' rising lt'

  pub check_low : (c : ℕ) → c < rows.shape.group → r + c * rows.shape.q < check_count rows.shape
  check_low c small =
      let more : (c + 1) * rows.shape.q ≤ rows.shape.group * rows.shape.q = mul-le-mul_right rows.shape.q (omega arith) in
      omega arith

  pub place_is : (c : ℕ) → place_of_check rows.shape (r + c * rows.shape.q) ≡ r * rows.shape.group + c
  place_is c = λ i. layer_of rows fit.shaped r layer c i * rows.shape.group + lane_of rows fit.shaped r layer c i

  -- the entry of a move shows its target
  pub target_shown : (targets amounts : List ℕ) (st : State) → ShowsMoves rows targets amounts st → (c T : ℕ) → c < rows.shape.group → get_or targets (r * rows.shape.group + c) 0 ≡ T → 0 < st.amount (r + c * rows.shape.q)
      → (T < entry_count rows r) × (forth rows.shape c (bit T) ≡ st.target (r + c * rows.shape.q))
  target_shown targets amounts st shows c T small t_is some =
      let s = rows.shape in
      let j = r + c * s.q in
      let low = check_low c small in
      let t' : get_or targets (place_of_check s j) 0 ≡ T = ap (λ k. get_or targets k 0) (place_is c) ∙ t_is in
      let within = shows.within j low some in
      let T_low : T < entry_count rows r = omega (arith, within, t', ap (entry_count rows) (layer_of rows fit.shaped r layer c)) in
      (T_low, sym (shown_is c T T_low) ∙ sym (λ i. shown rows (layer_of rows fit.shaped r layer c i) (lane_of rows fit.shaped r layer c i) (t' i)) ∙ shows.target j low some)

  -- a move raises the bit that an entry shows as the state's move does
  pub raise_shown : (targets amounts : List ℕ) (st : State) → ShowsMoves rows targets amounts st → (c e T A : ℕ) → c < rows.shape.group → e < entry_count rows r
      → get_or targets (r * rows.shape.group + c) 0 ≡ T → get_or amounts (r * rows.shape.group + c) 0 ≡ A
      → (A ≡ st.amount (r + c * rows.shape.q)) × (signed (T == e) A ≡ raise st (r + c * rows.shape.q) (forth rows.shape c (bit e)))
  raise_shown targets amounts st shows c e T A small lt t_is a_is =
      let s = rows.shape in
      let j = r + c * s.q in
      let low = check_low c small in
      let x = forth s c (bit e) in
      let amount : A ≡ st.amount j = sym a_is ∙ ap (λ k. get_or amounts k 0) (sym (place_is c)) ∙ shows.amount j low in (
        amount,
        ap (signed (T == e)) amount ∙ elim (cases_eq (st.amount j) 0) [
          | inl none ↦ signed_none (T == e) (x == st.target j) (st.amount j) none
          | inr some ↦ (
              let is = target_shown targets amounts st shows c T small t_is (omega arith) in
              let tests : eqb T e ≡ eqb x (st.target j) = same_tests T e x (st.target j) (λ same. ap (λ k. forth s c (bit k)) (sym same) ∙ is.1) (λ same. apart c T e small is.0 lt (is.1 ∙ sym same)) in
              ap (λ b. signed b (st.amount j)) tests
              )
        ],
      )

  module _ (h : Held) (st : State) (within : IsWithin st) (shows : Shows rows h st) (c : ℕ) (small : c < rows.shape.group) where
    abbrev target : ℕ
    target = get_or (of_layer rows.shape.group r h.targets) c 0

    abbrev amount : ℕ
    amount = get_or (of_layer rows.shape.group r h.amounts) c 0

    -- what an entry's member gives
    abbrev own : ℕ → ℕ
    own e = given (cell h.rests rows.shape.group (row_of_bit rows.shape (bit e)) (rotated rows.shape.group (rows.shape.group - 1 - lane_of_bit rows.shape (bit e)) c)) target amount e

    pub target_kept : get_or h.targets (r * rows.shape.group + c) 0 ≡ target
    target_kept = sym (upto_at 0 (λ x. get_or h.targets (r * rows.shape.group + x) 0) rows.shape.group c small)

    pub amount_kept : get_or h.amounts (r * rows.shape.group + c) 0 ≡ amount
    amount_kept = sym (upto_at 0 (λ x. get_or h.amounts (r * rows.shape.group + x) 0) rows.shape.group c small)

    count : (e : ℕ) → e < length (entries_of rows r) → e < entry_count rows r
    count e lt = omega (arith, entries_long)

    bit_low : (e : ℕ) → e < entry_count rows r → bit e < code_bits rows.shape
    bit_low e lt = member_below rows fit.shaped r layer e lt

    gift : (e : ℕ) → e < entry_count rows r → layer_inputs rows r h c e ≡ cond (is_lacking (lacked_row rows.shape r) (entry_of rows.shape (bit e)) c) 65535 (own e)
    gift e lt =
        ap (λ (x : Circulant). cond (is_lacking (lacked_row rows.shape r) x c) 65535 (given (cell h.rests rows.shape.group x.row (rotated rows.shape.group x.shift c)) target amount e)) (entry_is e lt)

    gave : (e : ℕ) → e < entry_count rows r → own e ≡ input (code_of rows) st (r + c * rows.shape.q) (forth rows.shape c (bit e))
    gave e lt =
        let s = rows.shape in
        let n = s.group in
        let x = forth s c (bit e) in
        let x_low = Places.forth_below s fit.shaped c (bit e) (bit_low e lt) in
        let row = Places.row_forth s fit.shaped c (bit e) (bit_low e lt) in
        let lane = Places.lane_forth s fit.shaped c (bit e) (bit_low e lt) ∙ sym (turn_is c e lt) in
        let at : cell h.rests n (row_of_bit s (bit e)) (rotated n (n - 1 - lane_of_bit s (bit e)) c) ≡ word (rest (code_of rows) st x) = sym (λ i. cell h.rests n (row i) (lane i)) ∙ shows.rests x x_low in
        let raised = raise_shown h.targets h.amounts st shows.moves c e target amount small lt target_kept amount_kept in
        let few : amount ≤ 65535 = omega (arith, raised.0, within (r + c * s.q)) in
        given_is (cell h.rests n (row_of_bit s (bit e)) (rotated n (n - 1 - lane_of_bit s (bit e)) c)) amount (rest (code_of rows) st x) (target == e) at few
        ∙ ap (λ z. word (rest (code_of rows) st x -ℤ z)) raised.1

    -- the entry that shows a member
    entry_in : (y : ℕ) → Has (members (code_of rows) (r + c * rows.shape.q)) y → position_or_len (λ m. m == back rows.shape c y) (members (code_of rows) (last_check rows.shape r)) < entry_count rows r
    entry_in y has =
        let in' = of_has rows (r + c * rows.shape.q) y has in
        place_in rows fit.shaped r layer c small y in'.0 in'.1

    entry_shows : (y : ℕ) → Has (members (code_of rows) (r + c * rows.shape.q)) y → forth rows.shape c (bit (position_or_len (λ m. m == back rows.shape c y) (members (code_of rows) (last_check rows.shape r)))) ≡ y
    entry_shows y has =
        let in' = of_has rows (r + c * rows.shape.q) y has in
        ap (forth rows.shape c) (found (members (code_of rows) (last_check rows.shape r)) (back rows.shape c y) (entry_in y has)) ∙ Places.forth_back rows.shape fit.shaped c y small in'.0

    entry_there : (y : ℕ) → Has (members (code_of rows) (r + c * rows.shape.q)) y → is_lacking (lacked_row rows.shape r) (entry_of rows.shape (bit (position_or_len (λ m. m == back rows.shape c y) (members (code_of rows) (last_check rows.shape r))))) c ≡ false
    entry_there y has =
        let e = position_or_len (λ m. m == back rows.shape c y) (members (code_of rows) (last_check rows.shape r)) in
        let in' = of_has rows (r + c * rows.shape.q) y has in
        elim (cases_Bool (is_lacking (lacked_row rows.shape r) (entry_of rows.shape (bit e)) c)) [
          | inr there ↦ there
          | inl out ↦ (
              let none = (lacks rows fit.shaped r layer c small (bit e) (bit_low e (entry_in y has)) out).1.1 in
              let e' : true ≡ false = sym in'.1 ∙ ap (is_member rows (r + c * rows.shape.q)) (sym (entry_shows y has)) ∙ none in
              absurd (cc)
              )
        ]

    -- the inputs that a lane takes are those of its check's members
    pub lanes : Lanes (layer_inputs rows r h c) (length (entries_of rows r)) (input (code_of rows) st (r + c * rows.shape.q)) (members (code_of rows) (r + c * rows.shape.q)) (λ e. forth rows.shape c (bit e)) (λ e. is_lacking (lacked_row rows.shape r) (entry_of rows.shape (bit e)) c) (λ y. position_or_len (λ m. m == back rows.shape c y) (members (code_of rows) (last_check rows.shape r)))
    lanes =
        let j = r + c * rows.shape.q in
        let ms = members (code_of rows) j in
        record {
          lacks = λ e lt out. gift e (count e lt) ∙ ap (λ b. cond b 65535 (own e)) out;
          gives = λ e lt there. gift e (count e lt) ∙ ap (λ b. cond b 65535 (own e)) there ∙ gave e (count e lt);
          member = λ e lt there. place_in_members (code_of rows) (forth rows.shape c (bit e)) j (Places.forth_below rows.shape fit.shaped c (bit e) (bit_low e (count e lt))) (present rows fit.shaped r layer c small (bit e) (bit_low e (count e lt)) (member_has rows fit.shaped r layer e (count e lt)) there);
          entry_low = λ y has. omega (arith, entries_long, entry_in y has);
          entry_there = entry_there;
          entry_bit = entry_shows;
          apart = λ e e' lt lt' same. apart c e e' small (count e lt) (count e' lt') same;
          some = some_member rows j (check_low c small);
          small = λ y. omega (arith, word_fits (rest (code_of rows) st y -ℤ raise st j y));
          members = all_have ms (λ k lt. omega (arith, place_of ms k (members_rising (code_of rows) j) lt));
          rising = members_rising (code_of rows) j;
        }

    -- where anything is free, the least stands at the entry of the target
    target_at : (margin : ℕ) → 0 < freed_by margin (input (code_of rows) st (r + c * rows.shape.q)) (members (code_of rows) (r + c * rows.shape.q)) → (new_target rows r h c < entry_count rows r) × (forth rows.shape c (bit (new_target rows r h c)) ≡ to_target (code_of rows) st (r + c * rows.shape.q))
    target_at margin some =
        let is = target_is (layer_inputs rows r h c) (length (entries_of rows r)) (input (code_of rows) st (r + c * rows.shape.q)) (members (code_of rows) (r + c * rows.shape.q)) (λ e. forth rows.shape c (bit e)) (λ e. is_lacking (lacked_row rows.shape r) (entry_of rows.shape (bit e)) c) (λ y. position_or_len (λ m. m == back rows.shape c y) (members (code_of rows) (last_check rows.shape r))) lanes margin some in
        (omega (arith, entries_long, is.0), is.1)

    pub lane_amount : (step : Step) → step.margin ≤ 65535 → new_amount rows step r h c ≡ to_amount (code_of rows) step st (r + c * rows.shape.q)
    lane_amount step few =
        let s = rows.shape in
        let j = r + c * s.q in
        let ms = members (code_of rows) j in
        let g = input (code_of rows) st j in
        let at = new_target rows r h c in
        let free = freed_by step.margin g ms in
        let kept : amount ≡ st.amount j = sym amount_kept ∙ ap (λ k. get_or h.amounts k 0) (sym (place_is c)) ∙ shows.moves.amount j (check_low c small) in
        let is : free_of step.margin (layer_inputs rows r h c) (length (entries_of rows r)) ≡ free = free_is (layer_inputs rows r h c) (length (entries_of rows r)) g ms (λ e. forth s c (bit e)) (λ e. is_lacking (lacked_row s r) (entry_of s (bit e)) c) (λ y. position_or_len (λ m. m == back s c y) (members (code_of rows) (last_check s r))) lanes step.margin few in
        let most = freed_most step.margin g lanes.small ms in
        ap (moved16 step target amount at) is
        ∙ goes_further step target amount at free (st.target j) (to_target (code_of rows) st j) (omega (arith, kept, within j)) most (λ some moved. (
        let now = target_at step.margin some in
        let was = target_shown h.targets h.amounts st shows.moves c target small target_kept (omega (arith, kept, moved)) in
        same_tests at target (to_target (code_of rows) st j) (st.target j) (λ same. sym now.1 ∙ ap (λ k. forth s c (bit k)) same ∙ was.1) (λ same. apart c at target small now.0 was.0 (now.1 ∙ same ∙ sym was.1))
        ))
        ∙ ap (λ a. cond (step.further && (not (a == 0) && (to_target (code_of rows) st j == st.target j))) (further a free) free) kept

    -- where anything is moved, something is free
    some_free : (step : Step) → 0 < to_amount (code_of rows) step st (r + c * rows.shape.q) → 0 < freed_by step.margin (input (code_of rows) st (r + c * rows.shape.q)) (members (code_of rows) (r + c * rows.shape.q))
    some_free step some =
        let j = r + c * rows.shape.q in
        let free = freed_by step.margin (input (code_of rows) st j) (members (code_of rows) j) in
        elim (cases_eq free 0) [
          | inr more ↦ omega arith
          | inl none ↦ absurd (omega (arith, some, nothing (step.further && (not (st.amount j == 0) && (to_target (code_of rows) st j == st.target j))) (further (st.amount j) free) free (ap (further (st.amount j)) none ∙ further_none (st.amount j)) none))
        ]
      where
        nothing : (b : Bool) (x y : ℕ) → x ≡ 0 → y ≡ 0 → cond b x y ≡ 0
        nothing true x y one two = one
        nothing false x y one two = two

    pub lane_within : (step : Step) → 0 < to_amount (code_of rows) step st (r + c * rows.shape.q) → new_target rows r h c < entry_count rows r
    lane_within step some = (target_at step.margin (some_free step some)).0

    pub lane_target : (step : Step) → 0 < to_amount (code_of rows) step st (r + c * rows.shape.q) → shown rows r c (new_target rows r h c) ≡ to_target (code_of rows) st (r + c * rows.shape.q)
    lane_target step some =
        let is = target_at step.margin (some_free step some) in
        shown_is c (new_target rows r h c) is.0 ∙ is.1
