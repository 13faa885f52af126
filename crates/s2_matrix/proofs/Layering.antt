-- The layers of checks, and what they show.
use Rattle.std.proofs.Common.{◌≡◌, ◌≢◌, ℕ, zero, suc, ◌+◌, ◌-◌, ◌*◌, ◌/◌, ◌%◌, ◌<◌, ◌≤◌, ◌==◌, ◌||◌, Bool, true, false, All, AllPairs, Contains, List, [], ◌∷◌, ◌++◌, filter, length, get_or, take, inl, inr, refl, sym, ap, ap₂, subst, ◌∙◌, arith, eq-eqb, ne_eqb, eqb-true, mul-le-mul_left, mul-le-mul_right}
use Rattle.std.specs.List.{list_any}
use Rattle.std.proofs.lemmas.Bool.{cases_Bool, cases_eq, cases_lt}
use Rattle.std.proofs.lemmas.List.{take_more, length-map, get_or-map, length-take-le}
use Rattle.std.proofs.lemmas.List.Elements.{All-filter, filter_passes, Contains-get_or}
use Rattle.std.proofs.lemmas.List.FromFn.{length-range_with_len, get_or-range_with_len}
use Rattle.std.proofs.lemmas.List.Recursion.{or_push, or_from_places}
use Rattle.std.proofs.Common.{get_or-take}
use Rattle.std.proofs.lemmas.Nat.{div-mul-add, mod-mul-add}
use Rattle.s2_bits.specs.Rotations.{rotated}
use Rattle.s2_bits.proofs.Pieces.{rotated_low, rotated_high, rotated_below}
use Rattle.s2_mode.specs.Shape.{information_bits, check_count}
use Rattle.s2_rows.specs.Rows.{Rows, IsRows, row_of}
use Rattle.s2_matrix.specs.Total.{upto}
use Rattle.s2_matrix.specs.Relation.{IsMember, by_row, parity, next}
use Rattle.s2_matrix.specs.Edges.{Gains, AreEdges}
use Rattle.s2_matrix.specs.declared.views.LayerEntry.{LayerEntry}
use Rattle.s2_matrix.specs.Layers.{meets, layer_places, layer_entries, entry_of, shown, IsInLayer, by_entry, own, before, ShowsMembers, LayerLaw, layer_code}
use Rattle.s2_matrix.proofs.Joins.{div_below}
use Rattle.s2_matrix.proofs.Members.{upto_below, filter_rising}
use Rattle.s2_matrix.proofs.RelationLemmas.{found, passes, member_lem}
use Rattle.s2_matrix.proofs.Planing.{hit_place, hit_layer, hit_only}
use Rattle.s2_matrix.proofs.Edging.{gains_none, gains_same, gains_both, one_edge, edges_more}

-- ---- a row's addresses, one shift at a time

any_more : (p : ℕ → Bool) (row : List ℕ) (i : ℕ) → i < length row → list_any p (take (i + 1) row) ≡ (list_any p (take i row) || p (get_or row i 0))
any_more p row i h = ap (list_any p) (take_more row i 0 h) ∙ or_push (list_any p) p refl (λ _ _. refl) (take i row) (get_or row i 0)

-- an address that this shift does not meet
pub pass_none : (q place x first : ℕ) (cs bs : List ℕ) → length bs ≡ length cs → All (λ k. k < q) cs → ((r : ℕ) → r < q → x ≢ first + r) → Gains q cs bs cs bs (λ r. x == first + r) place 1
pass_none q place x first cs bs paired below none =
    gains_same q place 0 1 cs bs cs bs (λ _. false) (λ r. x == first + r) (gains_none q place cs bs paired below) (omega arith) (λ r h. ne_eqb x (first + r) (none r h))

-- an address that it meets
pub pass_one : (q place x first : ℕ) (cs bs cs1 bs1 : List ℕ) → length bs ≡ length cs → All (λ k. k < q) cs → first ≤ x → x - first < q → cs1 ≡ cs ++ (x - first) ∷ [] → bs1 ≡ bs ++ place ∷ [] → Gains q cs bs cs1 bs1 (λ r. x == first + r) place 1
pass_one q place x first cs bs cs1 bs1 paired below high low ec eb =
    gains_same q place 1 1 cs bs cs1 bs1 (λ r. x - first == r) (λ r. x == first + r) (one_edge q place (x - first) cs bs cs1 bs1 low paired below ec eb) (omega arith) (λ r h. same r)
  where
    same : (r : ℕ) → (x == first + r) ≡ (x - first == r)
    same r = elim (cases_eq x (first + r)) [
      | inl equal ↦ eq-eqb x (first + r) equal ∙ sym (eq-eqb (x - first) r (omega (arith, equal)))
      | inr other ↦ ne_eqb x (first + r) other ∙ sym (ne_eqb (x - first) r (λ e. other (omega (arith, e, high))))
    ]

-- one address of a row more
pub shift_more : (q place i first : ℕ) (row cs bs cs1 bs1 cs2 bs2 : List ℕ) → i < length row → AllPairs (λ x y. x ≢ y) row → Gains q cs bs cs1 bs1 (λ r. list_any (λ x. x == first + r) (take i row)) place i → Gains q cs1 bs1 cs2 bs2 (λ r. get_or row i 0 == first + r) place 1 → Gains q cs bs cs2 bs2 (λ r. list_any (λ x. x == first + r) (take (i + 1) row)) place (i + 1)
shift_more q place i first row cs bs cs1 bs1 cs2 bs2 h apart so_far one =
    gains_both q place i 1 cs bs cs1 bs1 cs2 bs2 (λ r. list_any (λ x. x == first + r) (take i row)) (λ r. get_or row i 0 == first + r) (λ r. list_any (λ x. x == first + r) (take (i + 1) row)) so_far one
    (λ r _. any_more (λ x. x == first + r) row i h)
    (λ r test. none_before r (eqb-true (get_or row i 0) (first + r) test))
  where
    none_before : (r : ℕ) → get_or row i 0 ≡ first + r → list_any (λ y. y == first + r) (take i row) ≡ false
    none_before r e =
        let p = λ (y : ℕ). y == first + r in
        let short : length (take i row) ≡ i = length-take-le i row (omega arith) in
        or_from_places (list_any p) p refl (λ _ _. refl) (take i row) 0 (λ k less. (
        let before_i : k < i = omega arith in
        rw get_or-take (ne_eqb (get_or row k 0) (first + r) (λ is. apart k i 0 before_i h (is ∙ sym e)))
        ))

-- the places of one more
pub places_more : (rows : Rows) (place group q : ℕ) (row cs bs cs' bs' : List ℕ) → group ≡ rows.shape.group → q ≡ rows.shape.q → row ≡ row_of rows (place / group) → length row ≤ 24 → AreEdges (layer_code rows) place cs bs → Gains q cs bs cs' bs' (λ r. list_any (λ x. x == place % group * q + r) row) place (length row) → AreEdges (layer_code rows) (place + 1) cs' bs'
places_more rows place group q row cs bs cs' bs' eg eq er short edges gains =
    let P : ℕ → Type 0 = λ n. Gains n cs bs cs' bs' (λ r. list_any (λ x. x == place % group * q + r) row) place (length row) in
    edges_more (layer_code rows) place (length row) cs bs cs' bs' (λ r. list_any (λ x. x == place % group * q + r) row) edges (subst P eq gains) short (λ r _. same r)
  where
    same : (r : ℕ) → meets rows r place ≡ list_any (λ x. x == place % group * q + r) row
    same r = rw (er, eg, eq) refl

-- ---- what an entry shows

kept : (p : ℕ → Bool) (xs : List ℕ) (k : ℕ) → k < length xs → p (get_or xs k 0) ≡ true → (i : ℕ) × (i < length (filter p xs)) × (get_or (filter p xs) i 0 ≡ get_or xs k 0)
kept p [] k h e = absurd (omega arith)
kept p (x ∷ xs) zero h e =
    let list : filter p (x ∷ xs) ≡ x ∷ filter p xs = rw e refl in
    (0, omega (arith, ap length list), ap (λ l. get_or l 0 0) list)
kept p (x ∷ xs) (suc k) h e =
    let more = kept p xs k (omega arith) e in
    elim (cases_Bool (p x)) [
      | inl keeps ↦ rw keeps (suc more.0, omega (arith, more.1), more.2)
      | inr drops ↦ rw drops more
    ]

module _ (rows : Rows) (r c : ℕ) (accepted : IsRows rows) (layer : r < rows.shape.q) (lane : c < rows.shape.group) where
  check_low : r + c * rows.shape.q < rows.shape.group * rows.shape.q
  check_low = let big = mul-le-mul_right rows.shape.q lane in omega (arith, big, layer)

  check_lane : (r + c * rows.shape.q) / rows.shape.q ≡ c
  check_lane = let turn : r + c * rows.shape.q ≡ c * rows.shape.q + r = omega arith in ap (λ v. v / rows.shape.q) turn ∙ div-mul-add c rows.shape.q r layer

  check_layer : (r + c * rows.shape.q) % rows.shape.q ≡ r
  check_layer = let turn : r + c * rows.shape.q ≡ c * rows.shape.q + r = omega arith in ap (λ v. v % rows.shape.q) turn ∙ mod-mul-add c rows.shape.q r layer

  -- an entry of the layer for each address of it
  has_entry : (g x : ℕ) → g < rows.shape.groups → x < rows.shape.group * rows.shape.q → Contains (row_of rows g) x → x % rows.shape.q ≡ r → Contains (layer_entries rows r) (record { group = g; shift = x / rows.shape.q })
  has_entry g x low small at same =
      let n = rows.shape.group in
      let q = rows.shape.q in
      let s = x / q in
      let qn : n * q ≡ q * n = omega arith in
      let short : s < n = div_below x q n (omega (arith, layer)) (omega (arith, qn)) in
      let place = g * n + s in
      let big = mul-le-mul_left n low in
      let within : place < information_bits rows.shape = omega (arith, big, short) in
      let div : place / n ≡ g = div-mul-add g n s short in
      let rest : place % n ≡ s = mod-mul-add g n s short in
      let p = meets rows r in
      let whole : x ≡ s * q + r = omega (arith, same) in
      let met : meets rows r place ≡ true = ap₂ (λ (a b : ℕ). list_any (λ y. y == a * q + r) (row_of rows b)) rest div ∙ passes (λ y. y == s * q + r) (row_of rows g) x at (eq-eqb x (s * q + r) whole) in
      let number : get_or (upto (information_bits rows.shape)) place 0 ≡ place = omega (arith, get_or-range_with_len 0 (information_bits rows.shape) place 0 within) in
      let in_all : place < length (upto (information_bits rows.shape)) = omega (arith, length-range_with_len 0 (information_bits rows.shape), within) in
      let at_filter = kept p (upto (information_bits rows.shape)) place in_all (ap p number ∙ met) in
      let i = at_filter.0 in
      let list = layer_places rows r in
      let is : get_or list i 0 ≡ place = at_filter.2 ∙ number in
      let entry : LayerEntry = record { group = g; shift = s } in
      (i, omega (arith, length-map list (entry_of rows), at_filter.1), get_or-map (entry_of rows) list i 0 entry at_filter.1 ∙ ap (entry_of rows) is ∙ ap₂ (λ (a b : ℕ). record { group = a; shift = b }) div rest)

  to_layer : (b : ℕ) → IsMember rows (r + c * rows.shape.q) b → IsInLayer rows r c b
  to_layer b (by_row g m x low short at is gives) =
      let n = rows.shape.group in
      let q = rows.shape.q in
      let below : x < check_count rows.shape = subst (λ y. y < check_count rows.shape) at.2 ((accepted.each g low).below at.0 x at.1) in
      let same : x % q ≡ r = sym (hit_layer n q x m (r + c * q) gives) ∙ check_layer in
      let place : m ≡ rotated n (x / q) c = hit_only n q x (r + c * q) m (omega (arith, layer)) below check_low short gives ∙ ap (rotated n (x / q)) check_lane in
      by_entry (record { group = g; shift = x / q }) (has_entry g x low below at same) (is ∙ ap (λ v. g * n + v) place)
  to_layer b (parity is) = own is
  to_layer b (next high is) = before high is

  from_layer : (b : ℕ) → IsInLayer rows r c b → IsMember rows (r + c * rows.shape.q) b
  from_layer b (by_entry entry at is) =
      let n = rows.shape.group in
      let q = rows.shape.q in
      let list = layer_places rows r in
      let k = at.0 in
      let h : k < length list = omega (arith, at.1, length-map list (entry_of rows)) in
      let place = get_or list k 0 in
      let is_entry : entry ≡ entry_of rows place = sym at.2 ∙ get_or-map (entry_of rows) list k 0 entry h in
      let all = upto (information_bits rows.shape) in
      let low : place < information_bits rows.shape = All-filter (meets rows r) (λ i. i < information_bits rows.shape) all (upto_below (information_bits rows.shape)) k 0 h in
      let met : meets rows r place ≡ true = filter_passes (meets rows r) all k 0 h in
      let g = place / n in
      let s = place % n in
      let row = row_of rows (place / n) in
      let x_at = found (λ y. y == place % n * q + r) row met in
      let x = get_or row x_at.0 0 in
      let x_is : x ≡ s * q + r = eqb-true x (s * q + r) x_at.2 in
      let g_low : g < rows.shape.groups = div_below place n rows.shape.groups accepted.shaped.group_some low in
      let below : x < n * q = (accepted.each g g_low).below x_at.0 0 x_at.1 in
      let some : 1 ≤ q = omega (arith, layer) in
      let x_lane : x / q ≡ s = ap (λ v. v / q) x_is ∙ div-mul-add s q r layer in
      let x_layer : x % q ≡ r = ap (λ v. v % q) x_is ∙ mod-mul-add s q r layer in
      let m = rotated n s c in
      let one : 1 ≤ n = accepted.shaped.group_some in
      let gives : (x + rotated n (x / q) ((r + c * q) / q) * q) % (n * q) ≡ r + c * q = hit_place n q x (r + c * q) some below check_low (check_layer ∙ sym x_layer) in
      let gives' : (x + m * q) % (n * q) ≡ r + c * q = ap₂ (λ (u v : ℕ). (x + rotated n u v * q) % (n * q)) (sym x_lane) (sym check_lane) ∙ gives in
      by_row g m x g_low (rotated_below n s c one) (Contains-get_or row x_at.0 0 x_at.1) (is ∙ ap (λ e. shown rows e c) is_entry) gives'
  from_layer b (own is) = parity is
  from_layer b (before high is) = next high is

  -- two places show two bits
  shown_apart : (p p' : ℕ) → p < p' → shown rows (entry_of rows p) c ≢ shown rows (entry_of rows p') c
  shown_apart p p' less e =
      let n = rows.shape.group in
      let some = accepted.shaped.group_some in
      let t = rotated n (p % n) c in
      let t' = rotated n (p' % n) c in
      let low = rotated_below n (p % n) c some in
      let low' = rotated_below n (p' % n) c some in
      let same_group : p / n ≡ p' / n = sym (div-mul-add (p / n) n t low) ∙ ap (λ v. v / n) e ∙ div-mul-add (p' / n) n t' low' in
      let same_turn : t ≡ t' = sym (mod-mul-add (p / n) n t low) ∙ ap (λ v. v % n) e ∙ mod-mul-add (p' / n) n t' low' in
      let same_shift : p % n ≡ p' % n = rotated_one n (p % n) (p' % n) c (omega (arith, some)) (omega (arith, some)) lane same_turn in
      let whole : p ≡ p / n * n + p % n = omega (arith, some) in
      let whole' : p' ≡ p' / n * n + p' % n = omega (arith, some) in
      omega (arith, less, whole, whole', ap (λ v. v * n) same_group, same_shift)
    where
      rotated_one : (n s s' k : ℕ) → s < n → s' < n → k < n → rotated n s k ≡ rotated n s' k → s ≡ s'
      rotated_one n s s' k a b h is = elim (cases_lt k s) [
        | inl x ↦ elim (cases_lt k s') [
          | inl y ↦ omega (arith, is, rotated_low n s k x (omega arith), rotated_low n s' k y (omega arith))
          | inr y ↦ omega (arith, is, rotated_low n s k x (omega arith), rotated_high n s' k y h)
        ]
        | inr x ↦ elim (cases_lt k s') [
          | inl y ↦ omega (arith, is, rotated_high n s k x h, rotated_low n s' k y (omega arith))
          | inr y ↦ omega (arith, is, rotated_high n s k x h, rotated_high n s' k y h)
        ]
      ]

  shows : ShowsMembers rows r c
  shows =
      let list = layer_places rows r in
      let f = entry_of rows in
      record {
        members = λ b. (λ is. to_layer b ((member_lem rows (r + c * rows.shape.q) b accepted.shaped.group_some).0 is), λ is. (member_lem rows (r + c * rows.shape.q) b accepted.shaped.group_some).1 (from_layer b is));
        once = λ a b d less h e. (
            let h' : b < length list = omega (arith, h, length-map list f) in
            shown_apart (get_or list a 0) (get_or list b 0) (filter_rising (meets rows r) (information_bits rows.shape) a b 0 less h') (sym (ap (λ x. shown rows x c) (get_or-map f list a 0 d (omega (arith, less, h')))) ∙ e ∙ ap (λ x. shown rows x c) (get_or-map f list b 0 d h'))
            );
      }

-- the entry at a place
pub entry_at : (rows : Rows) (r at group : ℕ) (row : List ℕ) (d : LayerEntry) → row ≡ layer_places rows r → group ≡ rows.shape.group → at < length (layer_entries rows r) → record { group = get_or row at 0 / group; shift = get_or row at 0 % group } ≡ get_or (layer_entries rows r) at d
entry_at rows r at group row d er eg h =
    let low : at < length (layer_places rows r) = omega (arith, h, length-map (layer_places rows r) (entry_of rows)) in
    ap₂ (λ (xs : List ℕ) (n : ℕ). the_entry xs n) er eg ∙ sym (get_or-map (entry_of rows) (layer_places rows r) at 0 d low)
  where
    the_entry : List ℕ → ℕ → LayerEntry
    the_entry xs n = record { group = get_or xs at 0 / n; shift = get_or xs at 0 % n }

pub layer_lem : LayerLaw
layer_lem rows r c accepted layer lane = shows rows r c accepted layer lane
