-- The flat lists of a code.
use Rattle.std.proofs.Common.{◌≡◌, ◌≢◌, ℕ, zero, suc, ◌+◌, ◌-◌, ◌≤◌, ◌<◌, ◌==◌, Bool, true, false, cond, List, [], ◌∷◌, ◌++◌, map, length, get_or, take, filter, replicate, All, inl, inr, refl, sym, ap, ap₂, subst, ◌∙◌, arith, append-nil, length-append, ne_eqb}
use Rattle.std.specs.List.{position_or_len, AllPairs, range_with_len, sum_by}
use Rattle.std.proofs.lemmas.Bool.{cases_lt, cases_Bool, eqb-true}
use Rattle.std.proofs.lemmas.List.{get_or_append_left, get_or-append_right, get_or-replicate, length-replicate, take_all}
use Rattle.std.proofs.lemmas.List.Elements.{filter-append, filter_passes}
use Rattle.std.proofs.lemmas.List.FromFn.{length-range_with_len, get_or-range_with_len, get_or-map-range_with_len}
use Rattle.std.proofs.lemmas.List.Sums.{sum_by_push}
use Rattle.s2_matrix.specs.Total.{upto}
use Rattle.s2_rows.specs.Rows.{Rows}
use Rattle.s2_mode.specs.Shape.{Shape}
use Rattle.s2_matrix.specs.Code.{Code, code_of, members, checks_of}
use Rattle.s2_matrix.specs.Code.{first_edge, edge_of}
use Rattle.s2_matrix.specs.Code.{edges_at}
use Rattle.s2_matrix.proofs.Totals.{upto_more}
use Rattle.s2_matrix.proofs.Members.{first_edge_more, members_below, members_rising, place_in_members}
use Rattle.s2_matrix.specs.CountingSort.{with_key, places_before}
use Rattle.s2_matrix.specs.Joined.{joined}
use Rattle.s2_matrix.proofs.Counts.{with_key-append}
use Rattle.s2_matrix.proofs.Cuts.{joined-append}
use Rattle.s2_mode.specs.Limits.{max_bits}
use Rattle.s2_matrix.specs.Limits.{max_edges}
use Rattle.s2_matrix.specs.Layers.{layer_places}
use Rattle.s2_matrix.specs.Edges.{owners, flat, AreEdges, IsMatrix}
use Rattle.s2_rows.specs.Rows.{IsRows}

pub map-push : {X : Type 0} (f : ℕ → X) (n : ℕ) → map f (upto (n + 1)) ≡ map f (upto n) ++ f n ∷ []
map-push {X} f n = ap (map f) (upto_more n) ∙ map_append (upto n) (n ∷ [])
  where
    map_append : (xs ys : List ℕ) → map f (xs ++ ys) ≡ map f xs ++ map f ys
    map_append [] ys = refl
    map_append (x ∷ xs) ys = ap (λ l. f x ∷ l) (map_append xs ys)

pub at_upto : {X : Type 0} (f : ℕ → X) (n j : ℕ) (d : X) → j < n → get_or (map f (upto n)) j d ≡ f j
at_upto f n j d h = let here : 0 + j ≡ j = omega arith in get_or-map-range_with_len f 0 n j j d h here

pub flat_more : (code : Code) (n : ℕ) → flat code (n + 1) ≡ flat code n ++ members code n
flat_more code n =
    ap joined (map-push (members code) n) ∙ joined-append (map (members code) (upto n)) (members code n ∷ []) ∙ ap (λ l. flat code n ++ l) (append-nil (members code n))

pub length-flat : (code : Code) (n : ℕ) → length (flat code n) ≡ first_edge code n
length-flat code zero = refl
length-flat code (suc n) =
    let one : suc n ≡ n + 1 = omega arith in
    omega (arith, ap (λ k. length (flat code k)) one, ap length (flat_more code n), length-append (flat code n) (members code n), length-flat code n, first_edge_more code n, ap (first_edge code) one)

All-join : (P : ℕ → Type 0) (xs ys : List ℕ) → All P xs → All P ys → All P (xs ++ ys)
All-join P xs ys all more k d h =
    elim (cases_lt k (length xs)) [
      | inl early ↦ subst P (sym (get_or_append_left xs ys d k early)) (all k d early)
      | inr late ↦ subst P (sym (get_or-append_right xs ys (length xs) k d refl late)) (more (k - length xs) d (omega (arith, length-append xs ys)))
    ]

pub flat_below : (code : Code) (n : ℕ) → All (λ i. i < code.bits) (flat code n)
flat_below code zero = λ k d h. absurd (omega arith)
flat_below code (suc n) =
    let one : n + 1 ≡ suc n = omega arith in
    let P : List ℕ → Type 0 = All (λ i. i < code.bits) in
    subst P (sym (flat_more code n) ∙ ap (flat code) one) (All-join (λ i. i < code.bits) (flat code n) (members code n) (flat_below code n) (members_below code n))

-- ---- what the members of one check share out

with_key_none : (ms vs : List ℕ) (i : ℕ) → ((k : ℕ) → k < length ms → get_or ms k 0 ≢ i) → with_key ms vs i ≡ []
with_key_none [] vs i none = refl
with_key_none (m ∷ ms) [] i none = refl
with_key_none (m ∷ ms) (v ∷ vs) i none =
    let not : (m == i) ≡ false = ne_eqb m i (none 0 (omega arith)) in
    rw not (with_key_none ms vs i (λ k h. none (suc k) (omega arith)))

with_key_once : (ms vs : List ℕ) (i : ℕ) → AllPairs (λ a b. a < b) ms → length vs ≡ length ms → position_or_len (λ m. m == i) ms < length ms → with_key ms vs i ≡ get_or vs (position_or_len (λ m. m == i) ms) 0 ∷ []
with_key_once [] vs i rising long h = absurd (omega arith)
with_key_once (m ∷ ms) [] i rising long h = absurd (omega arith)
with_key_once (m ∷ ms) (v ∷ vs) i rising long h =
    elim (cases_Bool (m == i)) [
      | inl same ↦ (let rest = with_key_none ms vs i (λ k less. (λ e. (let up = rising 0 (suc k) 0 (omega arith) (omega arith) in let here = eqb-true m i same in omega arith))) in rw same (ap (λ l. v ∷ l) rest))
      | inr other ↦ (
          let more : position_or_len (λ m. m == i) ms < length ms = (let h' = rw other at h in omega arith) in
          let p = position_or_len (λ m. m == i) ms in
          let one : suc p ≡ 1 + p = omega arith in
          rw other (with_key_once ms vs i (λ a b d low high. rising (suc a) (suc b) d (omega arith) (omega arith)) (omega arith) more ∙ ap (λ k. get_or (v ∷ vs) k 0 ∷ []) one)
          )
    ]

-- bit i takes its value from check j, if it is a member
pub with_key_members : (code : Code) (j i : ℕ) (vs : List ℕ) → i < code.bits → length vs ≡ length (members code j) → with_key (members code j) vs i ≡ cond (code.has j i) (get_or vs (position_or_len (λ m. m == i) (members code j)) 0 ∷ []) []
with_key_members code j i vs low long =
    elim (cases_Bool (code.has j i)) [
      | inl has ↦ rw has (with_key_once (members code j) vs i (members_rising code j) long (place_in_members code i j low has))
      | inr lacks ↦ rw lacks (with_key_none (members code j) vs i (λ k h e. (
          let passes = filter_passes (code.has j) (upto code.bits) k 0 h in
          let clash = sym passes ∙ ap (code.has j) e ∙ lacks in
          cc clash
          )))
    ]

-- ---- the edges of a bit

range_add : (a m n : ℕ) → range_with_len a (m + n) ≡ range_with_len a m ++ range_with_len (a + m) n
range_add a zero n =
    let none : zero + n ≡ n = omega arith in
    let same : a + zero ≡ a = omega arith in
    ap (range_with_len a) none ∙ ap (λ k. range_with_len k n) (sym same)
range_add a (suc m) n =
    let one : suc m + n ≡ suc (m + n) = omega arith in
    let same : a + 1 + m ≡ a + suc m = omega arith in
    ap (range_with_len a) one ∙ ap (λ l. a ∷ l) (range_add (a + 1) m n ∙ ap (λ k. range_with_len (a + 1) m ++ range_with_len k n) same)

pub upto_add : (m n : ℕ) → upto (m + n) ≡ upto m ++ range_with_len m n
upto_add m n = let none : 0 + m ≡ m = omega arith in range_add 0 m n ∙ ap (λ k. upto m ++ range_with_len k n) none

pushed : {X : Type 0} (f : ℕ → X) (b : Bool) (xs : List ℕ) (n : ℕ) → map f xs ++ cond b (f n ∷ []) [] ≡ map f (xs ++ cond b (n ∷ []) [])
pushed f b [] n = elim b as (λ v. cond v (f n ∷ []) [] ≡ map f (cond v (n ∷ []) [])) [ true ↦ refl | false ↦ refl ]
pushed f b (x ∷ xs) n = ap (λ l. f x ∷ l) (pushed f b xs n)

filter_more : (p : ℕ → Bool) (n : ℕ) → filter p (upto (n + 1)) ≡ filter p (upto n) ++ cond (p n) (n ∷ []) []
filter_more p n = ap (filter p) (upto_more n) ∙ filter-append p (upto n) (n ∷ [])

pub flat_edges : (code : Code) (i n : ℕ) → i < code.bits → with_key (flat code n) (upto (first_edge code n)) i ≡ map (λ j. edge_of code j i) (filter (λ j. code.has j i) (upto n))
flat_edges code i zero low = refl
flat_edges code i (suc n) low =
    let one : suc n ≡ n + 1 = omega arith in
    let f = λ (j : ℕ). edge_of code j i in
    let p = λ (j : ℕ). code.has j i in
    let first = first_edge code n in
    let ms = members code n in
    let split : upto (first_edge code (n + 1)) ≡ upto first ++ range_with_len first (length ms) = ap upto (first_edge_more code n) ∙ upto_add first (length ms) in
    let size : length (upto first) ≡ length (flat code n) = length-range_with_len 0 first ∙ sym (length-flat code n) in
    let here : with_key ms (range_with_len first (length ms)) i ≡ cond (code.has n i) (f n ∷ []) [] =
    with_key_members code n i (range_with_len first (length ms)) low (length-range_with_len first (length ms)) ∙ place (code.has n i) refl
    in
    ap (λ k. with_key (flat code k) (upto (first_edge code k)) i) one ∙ ap₂ (λ x y. with_key x y i) (flat_more code n) split ∙ with_key-append (flat code n) (upto first) ms (range_with_len first (length ms)) i size ∙ ap₂ (λ (x y : List ℕ). x ++ y) (flat_edges code i n low) here ∙ pushed f (p n) (filter p (upto n)) n ∙ ap (map f) (sym (filter_more p n) ∙ ap (λ k. filter p (upto k)) (sym one))
  where
    place : (b : Bool) → code.has n i ≡ b → cond b (get_or (range_with_len (first_edge code n) (length (members code n))) (position_or_len (λ m. m == i) (members code n)) 0 ∷ []) [] ≡ cond b (edge_of code n i ∷ []) []
    place true has = ap (λ k. k ∷ []) (get_or-range_with_len (first_edge code n) (length (members code n)) (position_or_len (λ m. m == i) (members code n)) 0 (place_in_members code i n low has))
    place false lacks = refl

pub owners_more : (lists : List (List ℕ)) (n : ℕ) → owners lists (n + 1) ≡ owners lists n ++ replicate (length (get_or lists n [])) n
owners_more lists n =
    let g = λ (j : ℕ). replicate (length (get_or lists j [])) j in
    ap joined (map-push g n) ∙ joined-append (map g (upto n)) (g n ∷ []) ∙ ap (λ l. owners lists n ++ l) (append-nil (g n))

pub length-owners : (code : Code) (lists : List (List ℕ)) (n : ℕ) → ((j : ℕ) → j < n → get_or lists j [] ≡ members code j) → length (owners lists n) ≡ first_edge code n
length-owners code lists zero are = refl
length-owners code lists (suc n) are =
    let one : suc n ≡ n + 1 = omega arith in
    omega (arith, ap (λ k. length (owners lists k)) one, ap length (owners_more lists n), length-append (owners lists n) (replicate (length (get_or lists n [])) n), length-replicate (length (get_or lists n [])) n, ap length (are n (omega arith)), length-owners code lists n (λ j h. are j (omega arith)), first_edge_more code n, ap (first_edge code) one)

pub flat_checks : (code : Code) (lists : List (List ℕ)) (i n : ℕ) → i < code.bits → ((j : ℕ) → j < n → get_or lists j [] ≡ members code j) → with_key (flat code n) (owners lists n) i ≡ filter (λ j. code.has j i) (upto n)
flat_checks code lists i zero low are = refl
flat_checks code lists i (suc n) low are =
    let one : suc n ≡ n + 1 = omega arith in
    let p = λ (j : ℕ). code.has j i in
    let ms = members code n in
    let split : owners lists (n + 1) ≡ owners lists n ++ replicate (length ms) n = owners_more lists n ∙ ap (λ (l : List ℕ). owners lists n ++ replicate (length l) n) (are n (omega arith)) in
    let size : length (owners lists n) ≡ length (flat code n) = length-owners code lists n (λ j h. are j (omega arith)) ∙ sym (length-flat code n) in
    let here : with_key ms (replicate (length ms) n) i ≡ cond (code.has n i) (n ∷ []) [] =
    with_key_members code n i (replicate (length ms) n) low (length-replicate (length ms) n) ∙ place (code.has n i) refl
    in
    ap (λ k. with_key (flat code k) (owners lists k) i) one ∙ ap₂ (λ x y. with_key x y i) (flat_more code n) split ∙ with_key-append (flat code n) (owners lists n) ms (replicate (length ms) n) i size ∙ ap₂ (λ (x y : List ℕ). x ++ y) (flat_checks code lists i n low (λ j h. are j (omega arith))) here ∙ sym (filter_more p n) ∙ ap (λ k. filter p (upto k)) (sym one)
  where
    place : (b : Bool) → code.has n i ≡ b → cond b (get_or (replicate (length (members code n)) n) (position_or_len (λ m. m == i) (members code n)) 0 ∷ []) [] ≡ cond b (n ∷ []) []
    place true has = ap (λ k. k ∷ []) (get_or-replicate (length (members code n)) (position_or_len (λ m. m == i) (members code n)) n 0 (place_in_members code i n low has))
    place false lacks = refl

-- where the members of a check begin
pub flat_first : (code : Code) (n j : ℕ) → j ≤ n → places_before (map (members code) (upto n)) j ≡ first_edge code j
flat_first code n zero h = refl
flat_first code n (suc j) h =
    let one : suc j ≡ j + 1 = omega arith in
    let g = λ (k : ℕ). length (get_or (map (members code) (upto n)) k []) in
    let at = at_upto (members code) n j [] (omega arith) in
    omega (arith, ap (places_before (map (members code) (upto n))) one, ap (sum_by g) (upto_more j), sum_by_push g (upto j) j, ap length at, flat_first code n j (omega arith), first_edge_more code j, ap (first_edge code) one)

pub upto_same : {X : Type 0} (f g : ℕ → X) (n : ℕ) → ((j : ℕ) → j < n → f j ≡ g j) → map f (upto n) ≡ map g (upto n)
upto_same f g zero same = refl
upto_same f g (suc n) same =
    let one : suc n ≡ n + 1 = omega arith in
    ap (λ k. map f (upto k)) one ∙ map-push f n ∙ ap₂ (λ xs x. xs ++ x ∷ []) (upto_same f g n (λ j h. same j (omega arith))) (same n (omega arith)) ∙ sym (ap (λ k. map g (upto k)) one ∙ map-push g n)

-- the members that the edges of all bits give
pub members_given : (code : Code) (cs bs : List ℕ) → AreEdges code code.bits cs bs → map (with_key cs bs) (upto code.checks) ≡ map (members code) (upto code.checks)
members_given code cs bs edges = upto_same (with_key cs bs) (members code) code.checks edges.are

pub edges_given : (code : Code) (numbers : List ℕ) → numbers ≡ upto (first_edge code code.checks) → map (with_key (flat code code.checks) numbers) (upto code.bits) ≡ map (edges_at code) (upto code.bits)
edges_given code numbers is =
    upto_same (with_key (flat code code.checks) numbers) (edges_at code) code.bits (λ i low. ap (λ vs. with_key (flat code code.checks) vs i) is ∙ flat_edges code i code.checks low)

pub checks_given : (code : Code) (lists : List (List ℕ)) → lists ≡ map (members code) (upto code.checks) → map (with_key (flat code code.checks) (owners lists code.checks)) (upto code.bits) ≡ map (checks_of code) (upto code.bits)
checks_given code lists is =
    upto_same (with_key (flat code code.checks) (owners lists code.checks)) (checks_of code) code.bits (λ i low. flat_checks code lists i code.checks low (λ j h. ap (λ l. get_or l j []) is ∙ at_upto (members code) code.checks j [] h))

-- ---- the program's numbers

pub resized : (old new : List ℕ) (l n k j : ℕ) → l ≡ length old → n ≡ l + k → new ≡ take n old ++ replicate (n - l) j → new ≡ old ++ replicate k j
resized old new l n k j el en is =
    let more : n - l ≡ k = omega arith in
    is ∙ ap₂ (λ (x : List ℕ) (y : ℕ). x ++ replicate y j) (take_all n old (omega arith)) more

pub owners_step : (lists : List (List ℕ)) (old new row : List ℕ) (l n j : ℕ) → old ≡ owners lists j → l ≡ length old → row ≡ get_or lists j [] → n ≡ l + length row → new ≡ take n old ++ replicate (n - l) j → new ≡ owners lists (j + 1)
owners_step lists old new row l n j inv el er en is =
    resized old new l n (length row) j el en is ∙ ap₂ (λ (x y : List ℕ). x ++ replicate (length y) j) inv er ∙ sym (owners_more lists j)

pub same_rows : (r : Rows) (shape : Shape) (rows : List (List ℕ)) → shape ≡ r.shape → rows ≡ r.rows → record { shape = shape; rows = rows } ≡ r
same_rows r shape rows es er = ap₂ (λ (x : Shape) (y : List (List ℕ)). record { shape = x; rows = y }) es er

pub few_checks_of : (r : Rows) → IsRows r → (code_of r).checks ≤ max_bits
few_checks_of r accepted = omega (arith, accepted.shaped.few)

pub is_matrix : (r : Rows) (by_check edges checks layers : List (List ℕ)) → IsRows r → by_check ≡ map (members (code_of r)) (upto (code_of r).checks) → length (joined by_check) ≤ max_edges → edges ≡ map (edges_at (code_of r)) (upto (code_of r).bits) → checks ≡ map (checks_of (code_of r)) (upto (code_of r).bits) → layers ≡ map (layer_places r) (upto r.shape.q) → IsMatrix r by_check edges checks layers
is_matrix r by_check edges checks layers accepted is few is_edges is_checks is_layers = record {
  rows = accepted;
  few_edges = omega (arith, ap (λ l. length (joined l)) is, length-flat (code_of r) (code_of r).checks);
  by_check_is = is;
  edges_is = is_edges;
  checks_is = is_checks;
  layers_is = is_layers;
}
