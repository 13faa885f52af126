-- Edges are added one by one.
use Rattle.std.proofs.Common.{◌≡◌, ℕ, ◌+◌, ◌*◌, ◌≤◌, ◌<◌, ◌==◌, ◌||◌, Bool, true, false, cond, List, [], ◌∷◌, ◌++◌, length, get_or, take, filter, All, inl, inr, refl, sym, ap, subst, ◌∙◌, arith, append-nil, length-append, ◌/◌, ◌%◌, ne_eqb}
use Rattle.std.specs.List.{list_any}
use Rattle.std.proofs.lemmas.Bool.{eqb-true}
use Rattle.s2_mode.specs.Shape.{information_bits, check_count}
use Rattle.s2_rows.specs.Rows.{AreAddresses}
use Rattle.s2_matrix.proofs.Joins.{row_more, row_apart, info_has, parity_has}
use Rattle.std.proofs.lemmas.Bool.{cases_lt}
use Rattle.std.proofs.lemmas.List.{get_or_append_left, get_or_at}
use Rattle.std.proofs.lemmas.List.Elements.{filter-append}
use Rattle.s2_matrix.specs.Total.{upto}
use Rattle.s2_rows.specs.Rows.{Rows, row_of}
use Rattle.s2_matrix.specs.Code.{Code, code_of}
use Rattle.s2_matrix.proofs.Totals.{upto_more}
use Rattle.s2_matrix.specs.CountingSort.{with_key}
use Rattle.s2_matrix.proofs.Counts.{with_key-append}
use Rattle.s2_matrix.specs.Edges.{Gains, AreEdges}

pub gains_none : (count bit : ℕ) (cs bs : List ℕ) → length bs ≡ length cs → All (λ k. k < count) cs → Gains count cs bs cs bs (λ _. false) bit 0
gains_none count bit cs bs paired below = record {
  paired = paired;
  below = below;
  few = omega arith;
  gained = λ j h. sym (append-nil (with_key cs bs j));
}

All-push : (P : ℕ → Type 0) (xs : List ℕ) (x : ℕ) → All P xs → P x → All P (xs ++ x ∷ [])
All-push P xs x all here k d h =
    elim (cases_lt k (length xs)) [
      | inl early ↦ subst P (sym (get_or_append_left xs (x ∷ []) d k early)) (all k d early)
      | inr late ↦ (let last : k ≡ length xs = omega (arith, length-append xs (x ∷ [])) in subst P (sym (ap (λ n. get_or (xs ++ x ∷ []) n d) last ∙ get_or_at xs x [] d (length xs) refl)) here)
    ]

-- of two tests that never both pass
joined : (bit : ℕ) (p q r : Bool) → r ≡ (p || q) → (q ≡ true → p ≡ false) → (xs : List ℕ) → (xs ++ cond p (bit ∷ []) []) ++ cond q (bit ∷ []) [] ≡ xs ++ cond r (bit ∷ []) []
joined bit true true r e clash xs = cc (clash refl)
joined bit true false r e clash xs = append-nil (xs ++ bit ∷ []) ∙ rw e refl
joined bit false true r e clash xs = ap (λ ys. ys ++ bit ∷ []) (append-nil xs) ∙ rw e refl
joined bit false false r e clash xs = append-nil (xs ++ []) ∙ rw e refl

-- one gain after another
pub gains_both : (count bit m n : ℕ) (cs bs cs1 bs1 cs2 bs2 : List ℕ) (p s r : ℕ → Bool) → Gains count cs bs cs1 bs1 p bit m → Gains count cs1 bs1 cs2 bs2 s bit n → ((j : ℕ) → j < count → r j ≡ (p j || s j)) → ((j : ℕ) → s j ≡ true → p j ≡ false) → Gains count cs bs cs2 bs2 r bit (m + n)
gains_both count bit m n cs bs cs1 bs1 cs2 bs2 p s r one two either apart = record {
  paired = two.paired;
  below = two.below;
  few = omega (arith, one.few, two.few);
  gained = λ j h. (two.gained j h ∙ ap (λ (xs : List ℕ). xs ++ cond (s j) (bit ∷ []) []) (one.gained j h) ∙ joined bit (p j) (s j) (r j) (either j h) (apart j) (with_key cs bs j));
}

-- one edge more
pub gains_push : (count bit most c : ℕ) (cs bs cs' bs' : List ℕ) (p r : ℕ → Bool) → Gains count cs bs cs' bs' p bit most → c < count → ((j : ℕ) → j < count → r j ≡ (p j || (c == j))) → ((j : ℕ) → (c == j) ≡ true → p j ≡ false) → Gains count cs bs (cs' ++ c ∷ []) (bs' ++ bit ∷ []) r bit (most + 1)
gains_push count bit most c cs bs cs' bs' p r g low either apart = record {
  paired = omega (arith, length-append cs' (c ∷ []), length-append bs' (bit ∷ []), g.paired);
  below = All-push (λ k. k < count) cs' c g.below low;
  few = omega (arith, length-append cs' (c ∷ []), g.few);
  gained = λ j h. (with_key-append cs' bs' (c ∷ []) (bit ∷ []) j g.paired ∙ ap (λ (xs : List ℕ). xs ++ cond (c == j) (bit ∷ []) []) (g.gained j h) ∙ joined bit (p j) (c == j) (r j) (either j h) (apart j) (with_key cs bs j));
}

-- another spelling of the test
pub gains_same : (count bit most more : ℕ) (cs bs cs' bs' : List ℕ) (p r : ℕ → Bool) → Gains count cs bs cs' bs' p bit most → most ≤ more → ((j : ℕ) → j < count → r j ≡ p j) → Gains count cs bs cs' bs' r bit more
gains_same count bit most more cs bs cs' bs' p r g le same = record {
  paired = g.paired;
  below = g.below;
  few = omega (arith, g.few);
  gained = λ j h. (g.gained j h ∙ ap (λ b. with_key cs bs j ++ cond b (bit ∷ []) []) (sym (same j h)));
}

-- the edges of one bit more
pub edges_more : (code : Code) (n most : ℕ) (cs bs cs' bs' : List ℕ) (test : ℕ → Bool) → AreEdges code n cs bs → Gains code.checks cs bs cs' bs' test n most → most ≤ 24 → ((j : ℕ) → j < code.checks → code.has j n ≡ test j) → AreEdges code (n + 1) cs' bs'
edges_more code n most cs bs cs' bs' test edges gains few same = record {
  paired = gains.paired;
  below = gains.below;
  few = omega (arith, edges.few, gains.few);
  are = λ j h. (
      let xs = filter (code.has j) (upto n) in
      gains.gained j h ∙ ap (λ ys. ys ++ cond (test j) (n ∷ []) []) (edges.are j h) ∙ ap (λ b. xs ++ cond b (n ∷ []) []) (sym (same j h)) ∙ pushed (code.has j) xs ∙ sym (ap (filter (code.has j)) (upto_more n) ∙ filter-append (code.has j) (upto n) (n ∷ []))
      );
}
  where
    pushed : (p : ℕ → Bool) (xs : List ℕ) → xs ++ cond (p n) (n ∷ []) [] ≡ xs ++ filter p (n ∷ [])
    pushed p xs = refl

gains_step : (count bit most c : ℕ) (cs bs cs' bs' cs2 bs2 : List ℕ) (p r : ℕ → Bool) → Gains count cs bs cs' bs' p bit most → c < count → ((j : ℕ) → j < count → r j ≡ (p j || (c == j))) → ((j : ℕ) → (c == j) ≡ true → p j ≡ false) → cs2 ≡ cs' ++ c ∷ [] → bs2 ≡ bs' ++ bit ∷ [] → Gains count cs bs cs2 bs2 r bit (most + 1)
gains_step count bit most c cs bs cs' bs' cs2 bs2 p r g low either apart ec eb =
    let P : List ℕ → Type 0 = λ xs. Gains count cs bs xs bs2 r bit (most + 1) in
    let Q : List ℕ → Type 0 = λ xs. Gains count cs bs (cs' ++ c ∷ []) xs r bit (most + 1) in
    subst P (sym ec) (subst Q (sym eb) (gains_push count bit most c cs bs cs' bs' p r g low either apart))

-- a parity bit's edges
pub one_edge : (count bit check : ℕ) (cs bs cs1 bs1 : List ℕ) → check < count → length bs ≡ length cs → All (λ k. k < count) cs → cs1 ≡ cs ++ check ∷ [] → bs1 ≡ bs ++ bit ∷ [] → Gains count cs bs cs1 bs1 (λ j. check == j) bit 1
one_edge count bit check cs bs cs1 bs1 low paired below ec eb =
    gains_step count bit 0 check cs bs cs bs cs1 bs1 (λ _. false) (λ j. check == j) (gains_none count bit cs bs paired below) low (λ j h. refl) (λ j h. refl) ec eb

pub last_edge : (count bit check : ℕ) (cs bs cs1 bs1 : List ℕ) → count ≤ check + 1 → Gains count cs bs cs1 bs1 (λ j. check == j) bit 1 → Gains count cs bs cs1 bs1 (λ j. (check == j) || (check + 1 == j)) bit 2
last_edge count bit check cs bs cs1 bs1 last g =
    gains_same count bit 1 2 cs bs cs1 bs1 (λ j. check == j) (λ j. (check == j) || (check + 1 == j)) g (omega arith) (λ j h. (let test : (check + 1 == j) ≡ false = ne_eqb (check + 1) j (λ e. omega arith) in rw test (or_no (check == j))))
  where
    or_no : (b : Bool) → (b || false) ≡ b
    or_no true = refl
    or_no false = refl

pub two_edges : (count bit check : ℕ) (cs bs cs1 bs1 cs2 bs2 : List ℕ) → check + 1 < count → Gains count cs bs cs1 bs1 (λ j. check == j) bit 1 → cs2 ≡ cs1 ++ (check + 1) ∷ [] → bs2 ≡ bs1 ++ bit ∷ [] → Gains count cs bs cs2 bs2 (λ j. (check == j) || (check + 1 == j)) bit 2
two_edges count bit check cs bs cs1 bs1 cs2 bs2 low g ec eb =
    gains_step count bit 1 (check + 1) cs bs cs1 bs1 cs2 bs2 (λ j. check == j) (λ j. (check == j) || (check + 1 == j)) g low (λ j h. refl) (λ j h. ne_eqb check j (λ e. (let e' = eqb-true (check + 1) j h in omega arith))) ec eb

-- a row's edges, one address on
pub address_edge : (count bit i turn : ℕ) (row cs bs cs1 bs1 cs2 bs2 : List ℕ) → i < length row → 1 ≤ count → AreAddresses count row → Gains count cs bs cs1 bs1 (λ j. list_any (λ x. (x + turn) % count == j) (take i row)) bit i → cs2 ≡ cs1 ++ ((get_or row i 0 + turn) % count) ∷ [] → bs2 ≡ bs1 ++ bit ∷ [] → Gains count cs bs cs2 bs2 (λ j. list_any (λ x. (x + turn) % count == j) (take (i + 1) row)) bit (i + 1)
address_edge count bit i turn row cs bs cs1 bs1 cs2 bs2 h some addresses g ec eb =
    gains_step count bit i ((get_or row i 0 + turn) % count) cs bs cs1 bs1 cs2 bs2 (λ j. list_any (λ x. (x + turn) % count == j) (take i row)) (λ j. list_any (λ x. (x + turn) % count == j) (take (i + 1) row)) g (omega arith) (λ j _. row_more row i turn count j h) (λ j test. row_apart row i turn count j h addresses test) ec eb

-- what a row gives, by the program's numbers
pub info_same : (r : Rows) (bit j group q count : ℕ) (row : List ℕ) → group ≡ r.shape.group → q ≡ r.shape.q → count ≡ check_count r.shape → bit < information_bits r.shape → row ≡ row_of r (bit / group) → (code_of r).has j bit ≡ list_any (λ x. (x + bit % group * q) % count == j) row
info_same r bit j group q count row eg eq ec low er = rw (er, eg, eq, ec) (info_has r bit j low)

pub info_edges : (r : Rows) (bit group q count : ℕ) (row cs bs cs' bs' : List ℕ) → group ≡ r.shape.group → q ≡ r.shape.q → count ≡ check_count r.shape → bit < information_bits r.shape → row ≡ row_of r (bit / group) → length row ≤ 24 → AreEdges (code_of r) bit cs bs → Gains count cs bs cs' bs' (λ j. list_any (λ x. (x + bit % group * q) % count == j) row) bit (length row) → AreEdges (code_of r) (bit + 1) cs' bs'
info_edges r bit group q count row cs bs cs' bs' eg eq ec low er short edges gains =
    let P : ℕ → Type 0 = λ n. Gains n cs bs cs' bs' (λ j. list_any (λ x. (x + bit % group * q) % count == j) row) bit (length row) in
    edges_more (code_of r) bit (length row) cs bs cs' bs' (λ j. list_any (λ x. (x + bit % group * q) % count == j) row) edges (subst P ec gains) short (λ j h. info_same r bit j group q count row eg eq ec low er)

pub parity_edges : (r : Rows) (check first count : ℕ) (cs bs cs' bs' : List ℕ) → first ≡ information_bits r.shape → count ≡ check_count r.shape → AreEdges (code_of r) (first + check) cs bs → Gains count cs bs cs' bs' (λ j. (check == j) || (check + 1 == j)) (first + check) 2 → AreEdges (code_of r) (first + (check + 1)) cs' bs'
parity_edges r check first count cs bs cs' bs' ef ec edges gains =
    let P : ℕ → Type 0 = λ n. Gains n cs bs cs' bs' (λ j. (check == j) || (check + 1 == j)) (first + check) 2 in
    let Q : ℕ → Type 0 = λ n. AreEdges (code_of r) n cs' bs' in
    let next : first + check + 1 ≡ first + (check + 1) = omega arith in
    subst Q next (edges_more (code_of r) (first + check) 2 cs bs cs' bs' (λ j. (check == j) || (check + 1 == j)) edges (subst P ec gains) (omega arith) (λ j h. ap (λ n. (code_of r).has j (n + check)) ef ∙ parity_has r check j))
