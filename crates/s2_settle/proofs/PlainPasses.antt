-- The start and the passes of rows and lanes show those of checks and members; where passes end.
use Rattle.std.proofs.Common.{◌≡◌, ◌≢◌, ℕ, zero, suc, ◌+◌, ◌-◌, ◌*◌, ◌/◌, ◌%◌, ◌<◌, ◌≤◌, ◌==◌, nat_lt, Bool, true, false, cond, List, [], ◌∷◌, length, get_or, map, fold, replicate, sum_by, All, ℤ, pos, neg_ℤ, ◌+ℤ◌, ◌*ℤ◌, ◌<ℤ◌, ◌≤ℤ◌, int_lt, unsigned_abs, Option, None, Some, refl, ap, sym, subst, ◌∙◌, inl, inr, arith, eq-eqb, lt-ltb, le-ltb}
use Rattle.std.specs.List.{AllPairs, list_any}
use Rattle.std.proofs.lemmas.Bool.{cases_Bool, cases_lt}
use Rattle.std.proofs.lemmas.List.{get_or-map, get_or-replicate, length-replicate, get_or_past}
use Rattle.std.proofs.lemmas.List.FromFn.{length-range_with_len, get_or-range_with_len}
use Rattle.std.proofs.lemmas.List.Folds.{list_any_at}
use Rattle.std.proofs.lemmas.List.Elements.{All-head, All-tail}
use Rattle.std.proofs.lemmas.List.Sums.{sum_by-cons, fold-append}
use Rattle.std.proofs.lemmas.Nat.{mod-mul-add, div-mul-add, div-add-mod'}
use Rattle.std.proofs.lemmas.Int.{ints, by_lt_z}
use Rattle.s2_mode.specs.Shape.{code_bits}
use Rattle.s2_rows.specs.Rows.{Rows}
use Rattle.s2_matrix.specs.Total.{upto}
use Rattle.s2_matrix.specs.Code.{Code, code_of, checks_of}
use Rattle.s2_matrix.proofs.Totals.{total-same, total-zero, upto_more}
use Rattle.s2_matrix.proofs.Members.{upto_below}
use Rattle.s2_matrix.proofs.Joins.{div_below}
use Rattle.s2_bits.specs.Bits.{bit_at}
use Rattle.s2_check.specs.Cost.{value_at}
use Rattle.s2_check.specs.Moves.{in_favour}
use Rattle.s2_check.specs.Views.{IsSoft}
use Rattle.s2_mode.specs.Limits.{max_soft}
use Rattle.s2_minsum.specs.Layout.{row_of_bit, lane_of_bit, bit_of}
use Rattle.s2_minsum.proofs.Places
use Rattle.s2_minsum.proofs.Orders.{Within, sum_within}
use Rattle.s2_settle.specs.Rests.{zero_rest, lacking}
use Rattle.s2_settle.specs.declared.course.Step.{Step}
use Rattle.s2_settle.specs.Plain.{settling_scale, State, raise, rest, is_hopeless, after, step_at}
use Rattle.s2_settle.specs.declared.course.Course.{Course}
use Rattle.s2_settle.specs.Plain as plain
use Rattle.s2_settle.specs.Layer.{Held, layer}
use Rattle.s2_settle.specs.Start.{started, start}
use Rattle.s2_settle.specs.Passes.{pass}
use Rattle.s2_settle.specs.Placing.{place_of_check}
use Rattle.s2_minsum.specs.Decoding.{AreFit}
use Rattle.s2_settle.specs.Shows.{Shows, ShowsEnd, IsShown}
use Rattle.s2_settle.proofs.Layers.{upto_at, length-upto_map, by_places, pass_more}
use Rattle.s2_settle.proofs.PlainLayers.{layer_both}
use Rattle.s2_settle.proofs.RestWords.{word_at}

less_of : (a b : ℤ) → int_lt a b ≡ true → a <ℤ b
less_of a b h = by_lt_z a b (λ lt. lt) (λ le. absurd (grind (arith, ints)))

no_less_of : (a b : ℤ) → int_lt a b ≡ false → b ≤ℤ a
no_less_of a b h = by_lt_z a b (λ lt. absurd (grind (arith, ints))) (λ le. le)

-- ---- the start

soft_small : (soft : List ℤ) → All IsSoft soft → (i : ℕ) → unsigned_abs (value_at soft i) ≤ max_soft
soft_small soft all i = elim (cases_lt i (length soft)) [
  | inl lt ↦ (let is = all i (pos 0) lt in omega (arith, ints, is.low, is.high))
  | inr le ↦ (let none = get_or_past soft i (pos 0) le in omega (arith, ints, none))
]

started_is : (soft : List ℤ) (word : List Bool) → All IsSoft soft → (i : ℕ) → started soft word i ≡ plain.word (in_favour word i (pos settling_scale *ℤ value_at soft i))
started_is soft word all i =
    go (int_lt (value_at soft i) (pos 0)) (bit_at word i) refl refl
  where
    small : unsigned_abs (value_at soft i) ≤ max_soft
    small = soft_small soft all i

    stands : (z : ℤ) (m : ℕ) → z +ℤ pos 32768 ≡ pos m → m < 65536 → m ≡ plain.word z
    stands z m e low = (let is = word_at z 0 m (omega (arith, ints, e)) in omega (arith, is, low))

    go : (s b : Bool) → int_lt (value_at soft i) (pos 0) ≡ s → bit_at word i ≡ b → started soft word i ≡ plain.word (in_favour word i (pos settling_scale *ℤ value_at soft i))
    go true true s b = (let lt = less_of (value_at soft i) (pos 0) s in rw (s, b) (stands (neg_ℤ (pos settling_scale *ℤ value_at soft i)) (zero_rest + settling_scale * unsigned_abs (value_at soft i)) (omega (arith, ints, small, lt)) (omega (arith, small))))
    go true false s b = (let lt = less_of (value_at soft i) (pos 0) s in rw (s, b) (stands (pos settling_scale *ℤ value_at soft i) (zero_rest - settling_scale * unsigned_abs (value_at soft i)) (omega (arith, ints, small, lt)) (omega (arith, small))))
    go false true s b = (let le = no_less_of (value_at soft i) (pos 0) s in rw (s, b) (stands (neg_ℤ (pos settling_scale *ℤ value_at soft i)) (zero_rest - settling_scale * unsigned_abs (value_at soft i)) (omega (arith, ints, small, le)) (omega (arith, small))))
    go false false s b = (let le = no_less_of (value_at soft i) (pos 0) s in rw (s, b) (stands (pos settling_scale *ℤ value_at soft i) (zero_rest + settling_scale * unsigned_abs (value_at soft i)) (omega (arith, ints, small, le)) (omega (arith, small))))

nothing_raised : (b : Bool) → cond b (pos 0) (neg_ℤ (pos 0)) ≡ pos 0
nothing_raised true = refl
nothing_raised false = refl

same_everywhere : (z k n : ℕ) → get_or (replicate n z) k z ≡ z
same_everywhere z k n = elim (cases_lt k n) [
  | inl lt ↦ get_or-replicate n k z z lt
  | inr le ↦ get_or_past (replicate n z) k z (omega (arith, length-replicate n z))
]

pub start_shown : (rows : Rows) → AreFit rows → (soft : List ℤ) (word : List Bool) → All IsSoft soft → Shows rows (start rows soft word) (plain.start soft word)
start_shown rows fit soft word all =
    let s = rows.shape in
    let n = s.group in
    let many = s.q * n in
    record {
      long = record {
        rests_long = length-upto_map (λ p. started soft word (bit_of s (p / n) (p % n))) (code_bits s);
        targets_long = length-replicate {A = ℕ} many 0;
        amounts_long = length-replicate {A = ℕ} many 0;
      };
      rests = λ i low. (
          let row = row_of_bit s i in
          let lane = lane_of_bit s i in
          let lane_low = Places.lane_below s fit.shaped i low in
          let p = row * n + lane in
          let at : get_or (start rows soft word).rests p 0 ≡ started soft word (bit_of s (p / n) (p % n)) = upto_at 0 (λ p. started soft word (bit_of s (p / n) (p % n))) (code_bits s) p (Places.place_below s fit.shaped i low) in
          let bit : bit_of s (p / n) (p % n) ≡ i = (λ x. bit_of s (div-mul-add row n lane lane_low x) (mod-mul-add row n lane lane_low x)) ∙ Places.bit_again s fit.shaped i low in
          let none = total-same (λ j. raise (plain.start soft word) j i) (λ _. pos 0) (checks_of (code_of rows) i) (λ j. nothing_raised (i == 0)) ∙ total-zero (checks_of (code_of rows) i) in
          let is = started_is soft word all i in
          let same : in_favour word i (pos settling_scale *ℤ value_at soft i) ≡ rest (code_of rows) (plain.start soft word) i = omega (arith, ints, none) in
          at ∙ ap (started soft word) bit ∙ is ∙ ap plain.word same
          );
      moves = record {
        amount = λ j low. same_everywhere 0 (place_of_check s j) many;
        within = λ j low some. absurd (omega arith);
        target = λ j low some. absurd (omega arith);
      };
    }

pub start_both : (rows : Rows) → AreFit rows → (soft : List ℤ) (word : List Bool) → All IsSoft soft → IsShown rows (start rows soft word) (plain.start soft word)
start_both rows fit soft word all = record { within = λ j. omega arith; shows = start_shown rows fit soft word all }

-- ---- a pass

module _ (rows : Rows) (fit : AreFit rows) (step : Step) (few : step.margin ≤ 65535) (h : Held) (st : State) (shown : IsShown rows h st) where
  plain_more : (n : ℕ) → fold (plain.layer (code_of rows) rows.shape.q step) st (upto (n + 1)) ≡ plain.layer (code_of rows) rows.shape.q step (fold (plain.layer (code_of rows) rows.shape.q step) st (upto n)) n
  plain_more n =
      ap (fold (plain.layer (code_of rows) rows.shape.q step) st) (upto_more n) ∙ fold-append (plain.layer (code_of rows) rows.shape.q step) st (upto n) (n ∷ [])

  layers_shown : (n : ℕ) → n ≤ rows.shape.q → IsShown rows (fold (layer rows step) h (upto n)) (fold (plain.layer (code_of rows) rows.shape.q step) st (upto n))
  layers_shown zero le = shown
  layers_shown (suc n) le =
      let one : suc n ≡ n + 1 = omega arith in
      let before = layers_shown n (omega arith) in
      let now = layer_both rows fit step few n (omega arith) _ _ before in
      let a = ap (λ k. fold (layer rows step) h (upto k)) one ∙ pass_more rows step n h in
      let b = ap (λ k. fold (plain.layer (code_of rows) rows.shape.q step) st (upto k)) one ∙ plain_more n in
      subst (λ (x : State). IsShown rows (fold (layer rows step) h (upto (suc n))) x) (sym b) (subst (λ (x : Held). IsShown rows x (plain.layer (code_of rows) rows.shape.q step (fold (plain.layer (code_of rows) rows.shape.q step) st (upto n)) n)) (sym a) now)

  pub pass_shown : IsShown rows (pass rows step h) (plain.pass (code_of rows) rows.shape.q step st)
  pass_shown = layers_shown rows.shape.q (omega arith)

-- ---- bits that lack

sum_map : (g f : ℕ → ℕ) (xs : List ℕ) → sum_by g (map f xs) ≡ sum_by (λ k. g (f k)) xs
sum_map g f [] = refl
sum_map g f (x ∷ xs) =
    omega (arith, sum_map g f xs, sum_by-cons g (f x) (map f xs), sum_by-cons (λ k. g (f k)) x xs)

sum_same : (f g : ℕ → ℕ) (xs : List ℕ) → All (λ i. f i ≡ g i) xs → sum_by f xs ≡ sum_by g xs
sum_same f g [] same = refl
sum_same f g (x ∷ xs) same =
    omega (arith, sum_same f g xs (All-tail (λ i. f i ≡ g i) x xs same), All-head (λ i. f i ≡ g i) x xs same, sum_by-cons f x xs, sum_by-cons g x xs)

any_of : (xs : List ℕ) (y k : ℕ) → k < length xs → get_or xs k 0 ≡ y → list_any (λ m. m == y) xs ≡ true
any_of xs y k lt is = list_any_at (λ m. m == y) xs k 0 lt (eq-eqb (get_or xs k 0) y is)

module _ (rows : Rows) (fit : AreFit rows) (h : Held) (st : State) (shows : Shows rows h st) where
  abbrev bits : ℕ
  bits = code_bits rows.shape

  -- where the rests of the bits stand
  abbrev places : List ℕ
  places = map (λ i. row_of_bit rows.shape i * rows.shape.group + lane_of_bit rows.shape i) (upto (code_bits rows.shape))

  upto_is : (k d : ℕ) → k < bits → get_or (upto bits) k d ≡ k
  upto_is k d lt = omega (arith, get_or-range_with_len 0 bits k d lt)

  places_is : (k d : ℕ) → k < bits → get_or places k d ≡ row_of_bit rows.shape k * rows.shape.group + lane_of_bit rows.shape k
  places_is k d lt =
      get_or-map (λ i. row_of_bit rows.shape i * rows.shape.group + lane_of_bit rows.shape i) (upto bits) k 0 d (omega (arith, length-range_with_len 0 bits))
      ∙ ap (λ i. row_of_bit rows.shape i * rows.shape.group + lane_of_bit rows.shape i) (upto_is k 0 lt)

  places_long : length places ≡ bits
  places_long = length-upto_map (λ i. row_of_bit rows.shape i * rows.shape.group + lane_of_bit rows.shape i) bits

  -- the bit that stands at a place
  abbrev bit_at_place : ℕ → ℕ
  bit_at_place p = bit_of rows.shape (p / rows.shape.group) (p % rows.shape.group)

  there_low : (p : ℕ) → p < bits → bit_at_place p < bits
  there_low p low =
      let some = fit.shaped.group_some in
      Places.bit_below rows.shape fit.shaped (p / rows.shape.group) (p % rows.shape.group) (div_below p rows.shape.group (rows.shape.groups + rows.shape.q) some (omega arith)) (omega arith)

  there_is : (p : ℕ) → p < bits → row_of_bit rows.shape (bit_at_place p) * rows.shape.group + lane_of_bit rows.shape (bit_at_place p) ≡ p
  there_is p low =
      let some = fit.shaped.group_some in
      let row_low = div_below p rows.shape.group (rows.shape.groups + rows.shape.q) some (omega arith) in
      let lane_low : p % rows.shape.group < rows.shape.group = omega arith in
      let row = Places.row_again rows.shape fit.shaped (p / rows.shape.group) (p % rows.shape.group) row_low lane_low in
      let lane = Places.lane_again rows.shape fit.shaped (p / rows.shape.group) (p % rows.shape.group) row_low lane_low in
      (λ i. row i * rows.shape.group + lane i) ∙ div-add-mod' p rows.shape.group

  back_is : (i p : ℕ) → i < bits → row_of_bit rows.shape i * rows.shape.group + lane_of_bit rows.shape i ≡ p → bit_at_place p ≡ i
  back_is i p low is =
      let n = rows.shape.group in
      let row = row_of_bit rows.shape i in
      let lane = lane_of_bit rows.shape i in
      let lane_low = Places.lane_below rows.shape fit.shaped i low in
      ap bit_at_place (sym is) ∙ (λ x. bit_of rows.shape (div-mul-add row n lane lane_low x) (mod-mul-add row n lane lane_low x)) ∙ Places.bit_again rows.shape fit.shaped i low

  places_apart : AllPairs (λ a b. a ≢ b) places
  places_apart a b d less inside same =
      let la : a < bits = omega (arith, places_long) in
      let lb : b < bits = omega (arith, places_long) in
      let one = places_is a d la in
      let two = places_is b d lb in
      omega (arith, sym (back_is a (get_or places a d) la (sym one)) ∙ ap bit_at_place same ∙ back_is b (get_or places b d) lb (sym two))

  upto_apart : AllPairs (λ a b. a ≢ b) (upto bits)
  upto_apart a b d less inside same =
      let long = length-range_with_len 0 bits in
      omega (arith, same, upto_is a d (omega (arith, long)), upto_is b d (omega (arith, long)))

  places_in : Within places (upto bits)
  places_in k lt =
      let low : k < bits = omega (arith, places_long) in
      let p = get_or places k 0 in
      let p_low : p < bits = omega (arith, places_is k 0 low, Places.place_below rows.shape fit.shaped k low) in
      any_of (upto bits) p p (omega (arith, length-range_with_len 0 bits)) (upto_is p 0 p_low)

  upto_in : Within (upto bits) places
  upto_in k lt =
      let low : k < bits = omega (arith, length-range_with_len 0 bits) in
      let i = bit_at_place k in
      any_of places (get_or (upto bits) k 0) i (omega (arith, places_long, there_low k low)) (places_is i 0 (there_low k low) ∙ there_is k low ∙ sym (upto_is k 0 low))

  pub lacking_same : lacking h.rests ≡ plain.lacking (code_of rows) st
  lacking_same =
      let F : ℕ → ℕ = λ p. cond (nat_lt (get_or h.rests p 0) 32769) 1 0 in
      let G : ℕ → ℕ = λ i. cond (nat_lt (plain.word (rest (code_of rows) st i)) 32769) 1 0 in
      let own : ℕ → ℕ = λ v. cond (nat_lt v 32769) 1 0 in
      let list = by_places 0 (λ p. get_or h.rests p 0) bits h.rests shows.long.rests_long (λ k lt. refl) in
      let one : sum_by own h.rests ≡ sum_by F (upto bits) = ap (sum_by own) list ∙ sum_map own (λ p. get_or h.rests p 0) (upto bits) in
      let two : sum_by F places ≡ sum_by (λ i. F (row_of_bit rows.shape i * rows.shape.group + lane_of_bit rows.shape i)) (upto bits) = sum_map F (λ i. row_of_bit rows.shape i * rows.shape.group + lane_of_bit rows.shape i) (upto bits) in
      let three : sum_by (λ i. F (row_of_bit rows.shape i * rows.shape.group + lane_of_bit rows.shape i)) (upto bits) ≡ sum_by G (upto bits) = sum_same _ G (upto bits) (λ k d lt. (let low = upto_below bits k d lt in ap (λ w. cond {A = ℕ} (nat_lt w 32769) 1 0) (shows.rests (get_or (upto bits) k d) low))) in
      let up = sum_within F places (upto bits) places_apart places_in in
      let down = sum_within F (upto bits) places upto_apart upto_in in
      omega (arith, one, two, three, up, down)

-- ---- how passes end

-- what is left of passes: so many, from pass p on with this course, and a state that rows and lanes show, from which they end where they
-- are to end
pub record IsPassed (rows : Rows) (left p : ℕ) (c : Course) (h : Held) (end : Option State) : Type 0 where
  pub state : State
  pub shown : IsShown rows h state
  pub same : plain.passes (code_of rows) rows.shape.q left p c state ≡ end

pub end_none : (rows : Rows) (end : Option State) (h : Held) → end ≡ None → ShowsEnd rows end false h
end_none rows end h is = subst (λ (o : Option State). ShowsEnd rows o false h) (sym is) refl

pub end_some : (rows : Rows) (end : Option State) (h : Held) (s : State) → IsShown rows h s → end ≡ Some s → ShowsEnd rows end true h
end_some rows end h s shown is = subst (λ (o : Option State). ShowsEnd rows o true h) (sym is) (refl, shown)

module _ (code : Code) (q : ℕ) where
  pub passes_now : (n p : ℕ) (c : Course) (s : State) → (plain.lacking code s == 0) ≡ true → plain.passes code q n p c s ≡ Some s
  unfolding plain.passes
  passes_now zero p c s none = rw none refl
  passes_now (suc n) p c s none = rw none refl

  pub passes_never : (p : ℕ) (c : Course) (s : State) → (plain.lacking code s == 0) ≡ false → plain.passes code q 0 p c s ≡ None
  unfolding plain.passes
  passes_never p c s some = rw some refl

  pub passes_hopeless : (n p : ℕ) (c : Course) (s : State) → (plain.lacking code s == 0) ≡ false → is_hopeless code.bits p c.before (plain.lacking code s) ≡ true → plain.passes code q (suc n) p c s ≡ None
  unfolding plain.passes
  passes_hopeless n p c s some hopeless = rw (some, hopeless) refl

  pub passes_later : (n p : ℕ) (c : Course) (s : State) → (plain.lacking code s == 0) ≡ false → is_hopeless code.bits p c.before (plain.lacking code s) ≡ false
      → plain.passes code q (suc n) p c s ≡ plain.passes code q n (p + 1) (after c (plain.lacking code s)) (plain.pass code q (step_at c p (plain.lacking code s)) s)
  unfolding plain.passes
  passes_later n p c s some hopeful =
      let on = plain.passes code q n (p + 1) (after c (plain.lacking code s)) (plain.pass code q (step_at c p (plain.lacking code s)) s) in
      ap (λ x. cond x (Some s) (cond (is_hopeless code.bits p c.before (plain.lacking code s)) None on)) some
      ∙ ap (λ x. cond x None on) hopeful
