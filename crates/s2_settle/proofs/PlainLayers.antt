-- A layer over rows and lanes is the layer over checks and members.
use Rattle.std.proofs.Common.{◌≡◌, ◌≢◌, ℕ, zero, suc, ◌+◌, ◌-◌, ◌*◌, ◌/◌, ◌%◌, ◌<◌, ◌≤◌, ◌==◌, ◌&&◌, not, Bool, true, false, cond, List, length, get_or, ℤ, pos, ◌+ℤ◌, ◌-ℤ◌, eqb, refl, ap, sym, ◌∙◌, inl, inr, arith, eq-eqb, ne_eqb}
use Rattle.std.proofs.Math.Nat.{mul-le-mul_right}
use Rattle.std.proofs.lemmas.Bool.{cases_Bool, cases_eq}
use Rattle.std.proofs.lemmas.Nat.{mod-mul-add, div-mul-add}
use Rattle.std.proofs.lemmas.Int.{ints}
use Rattle.s2_mode.specs.Shape.{code_bits, check_count}
use Rattle.s2_rows.specs.Rows.{Rows}
use Rattle.s2_matrix.specs.Total.{total}
use Rattle.s2_matrix.specs.Code.{code_of, members, checks_of}
use Rattle.s2_matrix.proofs.Totals.{total-same, total-add}
use Rattle.s2_minsum.specs.declared.kernels.Circulant.{Circulant}
use Rattle.s2_minsum.specs.Rows.{is_lacking, changed}
use Rattle.s2_minsum.specs.Layout.{row_of_bit, lane_of_bit, forth, entry_of, entry_count, lacked_row, entries_of}
use Rattle.s2_minsum.proofs.Places
use Rattle.s2_minsum.proofs.StepStates
use Rattle.s2_minsum.proofs.StepStates.{of_lane, lane_small, stands}
use Rattle.s2_bits.specs.Lanes16.{plus16}
use Rattle.s2_settle.specs.declared.course.Step.{Step}
use Rattle.s2_settle.specs.Rests.{change}
use Rattle.s2_settle.specs.Plain.{State, raise, rest, word, input, freed_by, further, new_target as to_target, new_amount as to_amount, layer as layer_of_checks}
use Rattle.s2_settle.specs.Layer.{Held, with_layer, new_target, new_amount, change_in, layer as layer_of_rows}
use Rattle.s2_settle.specs.Placing.{shown, place_of_check}
use Rattle.s2_minsum.specs.Decoding.{AreFit}
use Rattle.s2_settle.specs.Shows.{ShowsMoves, Shows, IsWithin, IsShown}
use Rattle.s2_settle.proofs.Layers.{upto_at, length-upto_map}
use Rattle.s2_settle.proofs.RestWords.{signed, change_adds, word_fits, further_most}
use Rattle.s2_settle.proofs.LaneMoves.{freed_most}
use Rattle.s2_settle.proofs.LayerSums
use Rattle.s2_settle.proofs.ShownMoves.{bit, entries_long, entry_is, place_is, raise_shown, lane_amount, lane_within, lane_target, check_low}

either_most : (b : Bool) (x y : ℕ) → x ≤ 49150 → y ≤ 49150 → cond b x y ≤ 49150
either_most true x y one two = one
either_most false x y one two = two

-- no more is ever moved than the most
amount_most : (rows : Rows) (step : Step) (st : State) (j : ℕ) → to_amount (code_of rows) step st j ≤ 49150
amount_most rows step st j =
    let free = freed_by step.margin (input (code_of rows) st j) (members (code_of rows) j) in
    let most = freed_most step.margin (input (code_of rows) st j) (λ y. omega (arith, word_fits (rest (code_of rows) st y -ℤ raise st j y))) (members (code_of rows) j) in
    either_most (step.further && (not (st.amount j == 0) && (to_target (code_of rows) st j == st.target j))) (further (st.amount j) free) free (further_most (st.amount j) free most) (omega (arith, most))

pub layer_within : (rows : Rows) (step : Step) (r : ℕ) (st : State) → IsWithin st → IsWithin (layer_of_checks (code_of rows) rows.shape.q step st r)
layer_within rows step r st within = λ j. either_most (j % rows.shape.q == r) (to_amount (code_of rows) step st j) (st.amount j) (amount_most rows step st j) (within j)

-- a place of a list with another layer
layer_at : (n q r : ℕ) (xs : List ℕ) (f : ℕ → ℕ) (r' c : ℕ) → r' < q → c < n → length xs ≡ q * n → get_or (with_layer n r xs f) (r' * n + c) 0 ≡ cond (r' == r) (f c) (get_or xs (r' * n + c) 0)
layer_at n q r xs f r' c lt small long =
    let more : suc r' * n ≤ q * n = mul-le-mul_right n lt in
    upto_at 0 (λ k. cond (k / n == r) (f (k % n)) (get_or xs k 0)) (length xs) (r' * n + c) (omega arith)
    ∙ (λ i. cond (div-mul-add r' n c small i == r) (f (mod-mul-add r' n c small i)) (get_or xs (r' * n + c) 0))

length-with_layer : (n r : ℕ) (xs : List ℕ) (f : ℕ → ℕ) → length (with_layer n r xs f) ≡ length xs
length-with_layer n r xs f = length-upto_map (λ k. cond (k / n == r) (f (k % n)) (get_or xs k 0)) (length xs)

module _ (rows : Rows) (fit : AreFit rows) (step : Step) (few : step.margin ≤ 65535) (r : ℕ) (layer : r < rows.shape.q) (h : Held) (st : State) (within : IsWithin st) (shows : Shows rows h st) where
  abbrev after : State
  after = layer_of_checks (code_of rows) rows.shape.q step st r

  abbrev then' : Held
  then' = layer_of_rows rows step h r

  r_low : (j : ℕ) → j % rows.shape.q < rows.shape.q
  r_low j = let some = fit.shaped.q_some in omega arith

  amounts_at : (j : ℕ) → j < check_count rows.shape → get_or then'.amounts (place_of_check rows.shape j) 0 ≡ cond (j % rows.shape.q == r) (new_amount rows step r h (j / rows.shape.q)) (get_or h.amounts (place_of_check rows.shape j) 0)
  amounts_at j low = layer_at rows.shape.group rows.shape.q r h.amounts (new_amount rows step r h) (j % rows.shape.q) (j / rows.shape.q) (r_low j) (lane_small rows fit.shaped r layer j low) shows.long.amounts_long

  targets_at : (j : ℕ) → j < check_count rows.shape → get_or then'.targets (place_of_check rows.shape j) 0 ≡ cond (j % rows.shape.q == r) (new_target rows r h (j / rows.shape.q)) (get_or h.targets (place_of_check rows.shape j) 0)
  targets_at j low = layer_at rows.shape.group rows.shape.q r h.targets (new_target rows r h) (j % rows.shape.q) (j / rows.shape.q) (r_low j) (lane_small rows fit.shaped r layer j low) shows.long.targets_long

  -- the move of a check of this layer
  moved_amount : (j : ℕ) → j < check_count rows.shape → j % rows.shape.q ≡ r → new_amount rows step r h (j / rows.shape.q) ≡ to_amount (code_of rows) step st j
  moved_amount j low of =
      lane_amount rows fit r layer h st within shows (j / rows.shape.q) (lane_small rows fit.shaped r layer j low) step few ∙ ap (to_amount (code_of rows) step st) (of_lane rows fit.shaped r layer j of)

  -- where anything is moved, its target
  moved_target : (j : ℕ) → j < check_count rows.shape → j % rows.shape.q ≡ r → 0 < to_amount (code_of rows) step st j → (new_target rows r h (j / rows.shape.q) < entry_count rows (j % rows.shape.q)) × (shown rows (j % rows.shape.q) (j / rows.shape.q) (new_target rows r h (j / rows.shape.q)) ≡ to_target (code_of rows) st j)
  moved_target j low of some =
      let c = j / rows.shape.q in
      let c_low = lane_small rows fit.shaped r layer j low in
      let j_is = of_lane rows fit.shaped r layer j of in
      let some' : 0 < to_amount (code_of rows) step st (r + c * rows.shape.q) = omega (arith, some, ap (to_amount (code_of rows) step st) j_is) in
      let within' = lane_within rows fit r layer h st within shows c c_low step some' in
      (omega (arith, within', ap (entry_count rows) of), ap (λ x. shown rows x c (new_target rows r h c)) of ∙ lane_target rows fit r layer h st within shows c c_low step some' ∙ ap (to_target (code_of rows) st) j_is)

  pub moves_shown : ShowsMoves rows then'.targets then'.amounts after
  moves_shown = record {
    amount = λ j low. amounts_at j low ∙ elim (cases_eq (j % rows.shape.q) r) [
      | inl of ↦ (let yes' : eqb (j % rows.shape.q) r ≡ true = eq-eqb (j % rows.shape.q) r of in rw yes' (moved_amount j low of))
      | inr apart ↦ (let no' : eqb (j % rows.shape.q) r ≡ false = ne_eqb (j % rows.shape.q) r apart in rw no' (shows.moves.amount j low))
    ];
    within = λ j low some. (let is = targets_at j low in elim (cases_eq (j % rows.shape.q) r) [
      | inl of ↦ (let yes' : eqb (j % rows.shape.q) r ≡ true = eq-eqb (j % rows.shape.q) r of in let is' = is ∙ ap (λ b. cond b (new_target rows r h (j / rows.shape.q)) (get_or h.targets (place_of_check rows.shape j) 0)) yes' in (let some' : 0 < to_amount (code_of rows) step st j = rw yes' at some in omega (arith, is', (moved_target j low of some').0)))
      | inr apart ↦ (let no' : eqb (j % rows.shape.q) r ≡ false = ne_eqb (j % rows.shape.q) r apart in let is' = is ∙ ap (λ b. cond b (new_target rows r h (j / rows.shape.q)) (get_or h.targets (place_of_check rows.shape j) 0)) no' in let some' : 0 < st.amount j = rw no' at some in omega (arith, is', shows.moves.within j low some'))
    ]);
    target = λ j low some. ap (shown rows (j % rows.shape.q) (j / rows.shape.q)) (targets_at j low) ∙ elim (cases_eq (j % rows.shape.q) r) [
      | inl of ↦ (let yes' : eqb (j % rows.shape.q) r ≡ true = eq-eqb (j % rows.shape.q) r of in let some' : 0 < to_amount (code_of rows) step st j = rw yes' at some in rw yes' (moved_target j low of some').1)
      | inr apart ↦ (let no' : eqb (j % rows.shape.q) r ≡ false = ne_eqb (j % rows.shape.q) r apart in let some' : 0 < st.amount j = rw no' at some in rw no' (shows.moves.target j low some'))
    ];
  }

  -- by how much the moves of check k change the rest of bit i
  abbrev gain : ℕ → ℕ → ℤ
  gain k i = raise after k i -ℤ raise st k i

  -- a check of another layer
  still : (k i : ℕ) → k % rows.shape.q ≢ r → gain k i ≡ pos 0
  still k i apart =
      let no' : eqb (k % rows.shape.q) r ≡ false = ne_eqb (k % rows.shape.q) r apart in
      let same : raise after k i ≡ raise st k i = (λ x. signed (i == cond (no' x) (to_target (code_of rows) st k) (st.target k)) (cond (no' x) (to_amount (code_of rows) step st k) (st.amount k))) in
      omega (arith, ints, same)

  -- the rest after the layer
  rest_after : (i : ℕ) → rest (code_of rows) after i ≡ rest (code_of rows) st i +ℤ total (λ k. gain k i) (checks_of (code_of rows) i)
  rest_after i =
      let ks = checks_of (code_of rows) i in
      let one = total-same (λ k. raise after k i) (λ k. raise st k i +ℤ gain k i) ks (λ k. omega (arith, ints)) in
      let two = total-add (λ k. raise st k i) (λ k. gain k i) ks in
      omega (arith, ints, one, two)

  nothing_added : (x : ℕ) → x < 65536 → plus16 x 0 ≡ x
  nothing_added x low = omega arith

  -- what the entries below e make of the rest of a bit
  run_to : (e i : ℕ) → e ≤ entry_count rows r → i < code_bits rows.shape
      → changed rows.shape.group (entries_of rows r) h.rests (change_in rows step r h) e (row_of_bit rows.shape i * rows.shape.group + lane_of_bit rows.shape i) ≡ word (rest (code_of rows) st i +ℤ LayerSums.sum_to rows fit.shaped r layer gain e i)
  run_to zero i h' low =
      let is = shows.rests i low in
      let none = LayerSums.sum_none rows fit.shaped r layer gain i in
      let same : rest (code_of rows) st i ≡ rest (code_of rows) st i +ℤ LayerSums.sum_to rows fit.shaped r layer gain 0 i = omega (arith, ints, none) in
      is ∙ ap word same
  run_to (suc e) i h' low =
      let s = rows.shape in
      let n = s.group in
      let es = entries_of rows r in
      let row = row_of_bit s i in
      let lane = lane_of_bit s i in
      let lane_low = Places.lane_below s fit.shaped i low in
      let p = row * n + lane in
      let row_is : p / n ≡ row = div-mul-add row n lane lane_low in
      let lane_is : p % n ≡ lane = mod-mul-add row n lane lane_low in
      let lt : e < entry_count rows r = omega arith in
      let b = bit rows fit r layer e in
      let c = (lane + (n - 1 - lane_of_bit s b)) % n in
      let small : c < n = omega arith in
      let entry = entry_is rows fit r layer e lt in
      let so_far = changed n es h.rests (change_in rows step r h) e p in
      let j = r + c * s.q in
      let lacking = is_lacking (lacked_row s r) (entry_of s b) c in
      let rest' = run_to e i (omega arith) low in
      let moved = LayerSums.step rows fit.shaped r layer gain e i low lt in
      let one : suc e ≡ e + 1 = omega arith in
      let sum = λ (x : ℕ). LayerSums.sum_to rows fit.shaped r layer gain x i in
      let sum' : sum (suc e) ≡ sum e +ℤ cond (row_of_bit s b == row) (cond lacking (pos 0) (gain j i)) (pos 0) = ap sum one ∙ moved in
      let own = rest (code_of rows) st i in
      let on : (z : ℤ) → z ≡ own +ℤ sum (suc e) → word z ≡ word (own +ℤ sum (suc e)) = λ z is. ap word is in
      let x : Circulant = entry_of s b in
      let given : changed n es h.rests (change_in rows step r h) (suc e) p ≡ cond (row_of_bit s b == row) (plus16 so_far (cond lacking 0 (change (get_or h.targets (r * n + c) 0) (get_or h.amounts (r * n + c) 0) (new_target rows r h c) (new_amount rows step r h c) e))) so_far =
      (λ t. cond ((entry t).row == row_is t) (plus16 so_far (cond (is_lacking (lacked_row s r) (entry t) ((lane_is t + (entry t).shift) % n)) 0 (change (get_or h.targets (r * n + (lane_is t + (entry t).shift) % n) 0) (get_or h.amounts (r * n + (lane_is t + (entry t).shift) % n) 0) (new_target rows r h ((lane_is t + (entry t).shift) % n)) (new_amount rows step r h ((lane_is t + (entry t).shift) % n)) e))) so_far)
      in
      given ∙ elim (cases_eq (row_of_bit s b) row) [
        | inr other ↦ (
            let no' : eqb (row_of_bit s b) row ≡ false = ne_eqb (row_of_bit s b) row other in
            let sum'' : sum (suc e) ≡ sum e +ℤ pos 0 = sum' ∙ ap (λ t. sum e +ℤ cond t (cond lacking (pos 0) (gain j i)) (pos 0)) no' in
            rw no' (rest' ∙ on (own +ℤ sum e) (omega (arith, ints, sum'')))
            )
        | inl here ↦ (
            let yes' : eqb (row_of_bit s b) row ≡ true = eq-eqb (row_of_bit s b) row here in
            let sum'' : sum (suc e) ≡ sum e +ℤ cond lacking (pos 0) (gain j i) = sum' ∙ ap (λ t. sum e +ℤ cond t (cond lacking (pos 0) (gain j i)) (pos 0)) yes' in
            rw yes' (elim (cases_Bool lacking) [
              | inl out ↦ (
                  let none : sum (suc e) ≡ sum e +ℤ pos 0 = sum'' ∙ ap (λ t. sum e +ℤ cond t (pos 0) (gain j i)) out in
                  let same = nothing_added so_far (omega (arith, rest', word_fits (own +ℤ sum e))) in
                  rw out (same ∙ rest' ∙ on (own +ℤ sum e) (omega (arith, ints, none)))
                  )
              | inr there ↦ (
                  let more : sum (suc e) ≡ sum e +ℤ gain j i = sum'' ∙ ap (λ t. sum e +ℤ cond t (pos 0) (gain j i)) there in
                  let stood = stands rows fit.shaped r layer i e low lt here in
                  let forth_is : forth s c b ≡ i = ap (forth s c) (sym stood.0) ∙ Places.forth_back s fit.shaped c i small low in
                  let place = place_is rows fit r layer c in
                  let j_low = check_low rows fit r layer c small in
                  let of = StepStates.layer_of rows fit.shaped r layer c in
                  let lane' = StepStates.lane_of rows fit.shaped r layer c in
                  let yes'' : eqb (j % s.q) r ≡ true = eq-eqb (j % s.q) r of in
                  let new_t : get_or then'.targets (r * n + c) 0 ≡ new_target rows r h c = ap (λ k. get_or then'.targets k 0) (sym place) ∙ targets_at j j_low ∙ (λ t. cond (yes'' t) (new_target rows r h (lane' t)) (get_or h.targets (place_of_check s j) 0)) in
                  let new_a : get_or then'.amounts (r * n + c) 0 ≡ new_amount rows step r h c = ap (λ k. get_or then'.amounts k 0) (sym place) ∙ amounts_at j j_low ∙ (λ t. cond (yes'' t) (new_amount rows step r h (lane' t)) (get_or h.amounts (place_of_check s j) 0)) in
                  let now = raise_shown rows fit r layer then'.targets then'.amounts after moves_shown c e (new_target rows r h c) (new_amount rows step r h c) small lt new_t new_a in
                  let was = raise_shown rows fit r layer h.targets h.amounts st shows.moves c e (get_or h.targets (r * n + c) 0) (get_or h.amounts (r * n + c) 0) small lt refl refl in
                  let now_most = layer_within rows step r st within j in
                  let was_most = within j in
                  let adds = change_adds so_far (own +ℤ sum e) (new_target rows r h c == e) (get_or h.targets (r * n + c) 0 == e) (new_amount rows step r h c) (get_or h.amounts (r * n + c) 0) rest' (omega (arith, now.0, now_most)) (omega (arith, was.0, was_most)) in
                  let gains : signed (new_target rows r h c == e) (new_amount rows step r h c) -ℤ signed (get_or h.targets (r * n + c) 0 == e) (get_or h.amounts (r * n + c) 0) ≡ gain j i = (λ t. now.1 t -ℤ was.1 t) ∙ ap (gain j) forth_is in
                  rw there (adds ∙ on (own +ℤ sum e +ℤ (signed (new_target rows r h c == e) (new_amount rows step r h c) -ℤ signed (get_or h.targets (r * n + c) 0 == e) (get_or h.amounts (r * n + c) 0))) (omega (arith, ints, more, gains)))
                  )
            ])
            )
      ]

  pub layer_shown : Shows rows then' after
  layer_shown = record {
    long = record {
      rests_long = length-upto_map (changed rows.shape.group (entries_of rows r) h.rests (change_in rows step r h) (length (entries_of rows r))) (length h.rests) ∙ shows.long.rests_long;
      targets_long = length-with_layer rows.shape.group r h.targets (new_target rows r h) ∙ shows.long.targets_long;
      amounts_long = length-with_layer rows.shape.group r h.amounts (new_amount rows step r h) ∙ shows.long.amounts_long;
    };
    rests = λ i low. (
        let n = rows.shape.group in
        let f = λ (m : ℕ). changed n (entries_of rows r) h.rests (change_in rows step r h) m in
        let p = row_of_bit rows.shape i * n + lane_of_bit rows.shape i in
        let p_low : p < length h.rests = omega (arith, Places.place_below rows.shape fit.shaped i low, shows.long.rests_long) in
        let at : get_or then'.rests p 0 ≡ f (length (entries_of rows r)) p = upto_at 0 (f (length (entries_of rows r))) (length h.rests) p p_low in
        let all = LayerSums.sum_all rows fit.shaped r layer gain i low (λ k apart. still k i apart) in
        let run' = run_to (entry_count rows r) i (omega arith) low in
        let to = rest_after i in
        let same : rest (code_of rows) st i +ℤ LayerSums.sum_to rows fit.shaped r layer gain (entry_count rows r) i ≡ rest (code_of rows) after i = omega (arith, ints, all, to) in
        at ∙ ap (λ m. f m p) (entries_long rows fit r layer) ∙ run' ∙ ap word same
        );
    moves = moves_shown;
  }

pub layer_both : (rows : Rows) → AreFit rows → (step : Step) → step.margin ≤ 65535 → (r : ℕ) → r < rows.shape.q → (h : Held) (st : State) → IsShown rows h st → IsShown rows (layer_of_rows rows step h r) (layer_of_checks (code_of rows) rows.shape.q step st r)
layer_both rows fit step few r low h st shown =
    record { within = layer_within rows step r st shown.within; shows = layer_shown rows fit step few r low h st shown.within shown.shows }
