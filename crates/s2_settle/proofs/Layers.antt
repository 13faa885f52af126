-- A layer over the parts of a maker's lists.
use Rattle.std.proofs.Common.{◌≡◌, ◌≢◌, ℕ, suc, ◌+◌, ◌*◌, ◌/◌, ◌%◌, ◌<◌, ◌≤◌, true, false, cond, eqb, ne_eqb, eq-eqb, List, map, length, get_or, take, drop, fold, [], ◌∷◌, set, get_or-set_other, get_or-set_same, ap, sym, subst, ◌∙◌, inl, inr, arith}
use Rattle.std.proofs.Math.Nat.{mul-le-mul_right}
use Rattle.std.proofs.lemmas.Bool.{cases_lt, cases_eq}
use Rattle.std.proofs.lemmas.List.{ext_get_or, get_or-map, length-map, get_or-take, get_or-drop, length-take-le, length-drop}
use Rattle.std.proofs.lemmas.List.FromFn.{length-range_with_len, get_or-range_with_len}
use Rattle.std.proofs.lemmas.List.Sums.{fold-append}
use borrow.Rule.Slice.PartMut.{put_mid}
use Rattle.s2_rows.specs.Rows.{Rows}
use Rattle.s2_matrix.specs.Total.{upto}
use Rattle.s2_matrix.proofs.Totals.{upto_more}
use Rattle.s2_minsum.specs.declared.kernels.Circulant.{Circulant}
use Rattle.s2_minsum.specs.Rows.{entry_at, is_lacking, changed}
use Rattle.s2_minsum.specs.Layout.{lacked_row, entries_of}
use Rattle.s2_bits.proofs.RowParts.{row_before, put_mid_below, put_mid_at, put_mid_above, length-put_mid}
use Rattle.s2_bits.specs.Lanes16.{plus16}
use Rattle.s2_settle.specs.declared.course.Step.{Step}
use Rattle.s2_settle.specs.Rests.{received, change}
use Rattle.s2_settle.specs.Nodes.{least_at, amount_of}
use Rattle.s2_settle.specs.Layer.{Held, held, AreLong, of_layer, with_layer, new_target, new_amount, change_in, layer}
use Rattle.s2_minsum.proofs.Sames.{changed-same}

-- a list by its places
pub upto_at : {A : Type 0} (d : A) (f : ℕ → A) (n k : ℕ) → k < n → get_or (map f (upto n)) k d ≡ f k
upto_at d f n k lt =
    let low : k < length (upto n) = omega (arith, length-range_with_len 0 n) in
    let at : get_or (upto n) k 0 ≡ k = omega (arith, get_or-range_with_len 0 n k 0 lt) in
    get_or-map f (upto n) k 0 d low ∙ ap f at

pub length-upto_map : {A : Type 0} (f : ℕ → A) (n : ℕ) → length (map f (upto n)) ≡ n
length-upto_map f n = length-map (upto n) f ∙ length-range_with_len 0 n

pub by_places : {A : Type 0} (d : A) (f : ℕ → A) (n : ℕ) (xs : List A) → length xs ≡ n → ((k : ℕ) → k < n → get_or xs k d ≡ f k) → xs ≡ map f (upto n)
by_places d f n xs long are =
    ext_get_or d xs (map f (upto n)) (long ∙ sym (length-upto_map f n)) (λ k lt. (let low : k < n = omega (arith, long) in are k low ∙ sym (upto_at d f n k low)))

-- one more place is written
pub set_more : {A : Type 0} (d : A) (f : ℕ → A) (i : ℕ) (xs : List A) (x : A) → i < length xs → ((j : ℕ) → j < i → get_or xs j d ≡ f j) → x ≡ f i → (j : ℕ) → j < i + 1 → get_or (set xs i x) j d ≡ f j
set_more d f i xs x room before is j lt = elim (cases_lt j i) [
  | inl less ↦ (let ne : j ≢ i = omega arith in rw get_or-set_other (before j less))
  | inr le ↦ (let e : i ≡ j = omega arith in subst (λ k. get_or (set xs i x) k d ≡ f k) e (rw get_or-set_same is))
]

-- the layer's part of a list
pub layer_part : (n r w q : ℕ) (xs : List ℕ) → r < q → length xs ≡ q * n → w ≡ n → take w (drop (r * n) xs) ≡ of_layer n r xs
layer_part n r w q xs lt long width =
    let whole : suc r * n ≤ q * n = mul-le-mul_right n lt in
    by_places 0 (λ c. get_or xs (r * n + c) 0) n (take w (drop (r * n) xs)) (length-take-le w (drop (r * n) xs) (omega (arith, length-drop (r * n) xs)) ∙ width) (λ k low. get_or-take w (drop (r * n) xs) k 0 (omega arith) ∙ get_or-drop (r * n) xs k 0)

-- a list whose layer is rewritten
pub layer_put : (n r w q : ℕ) (xs ys : List ℕ) (f : ℕ → ℕ) → 1 ≤ n → r < q → length xs ≡ q * n → w ≡ n → length ys ≡ n → ((c : ℕ) → c < n → get_or ys c 0 ≡ f c) → put_mid (r * n) w xs ys ≡ with_layer n r xs f
layer_put n r w q xs ys f some lt long width ylen are =
    let whole : suc r * n ≤ q * n = mul-le-mul_right n lt in
    let room : r * n + w ≤ length xs = omega arith in
    let ylen' : length ys ≡ w = omega arith in
    let want = λ (k : ℕ). cond (eqb (k / n) r) (f (k % n)) (get_or xs k 0) in
    by_places 0 want (length xs) (put_mid (r * n) w xs ys) (length-put_mid 0 (r * n) w xs ys room ylen') (λ k low. (
    let row = k / n in
    let c = k % n in
    let small : c < n = omega arith in
    let split : row * n + c ≡ k = omega arith in
    elim (cases_eq row r) [
      | inl same ↦ (
          let here : r * n + c ≡ k = ap (λ x. x * n + c) (sym same) ∙ split in
          let yes' : eqb row r ≡ true = eq-eqb row r same in
          ap (λ x. get_or (put_mid (r * n) w xs ys) x 0) (sym here) ∙ put_mid_at 0 (r * n) w xs ys room ylen' c (omega arith) ∙ are c small ∙ sym (ap (λ b. cond b (f c) (get_or xs k 0)) yes')
          )
      | inr other ↦ (
          let no' : eqb row r ≡ false = ne_eqb row r other in
          elim (cases_lt row r) [
            | inl less ↦ (let before = row_before n r row c less small in put_mid_below 0 (r * n) w xs ys room ylen' k (omega arith))
            | inr le ↦ (let after : suc r * n ≤ row * n = mul-le-mul_right n (omega arith) in put_mid_above 0 (r * n) w xs ys room ylen' k (omega arith))
          ] ∙ sym (ap (λ b. cond b (f c) (get_or xs k 0)) no')
          )
    ]
    ))

-- what the rows' layer ensures
pub record Ran (es : List Circulant) (rests ts as' rests' ts' as'' : List ℕ) (step : Step) (n last m : ℕ) : Type 0 where
  pub rests_long : length rests' ≡ length rests
  pub targets_long : length ts' ≡ n
  pub amounts_long : length as'' ≡ n
  pub targets : (c : ℕ) → c < n → get_or ts' c 0 ≡ least_at (λ e. received n es last rests ts as' e c) m
  pub amounts : (c : ℕ) → c < n → get_or as'' c 0 ≡ amount_of step (get_or ts c 0) (get_or as' c 0) (λ e. received n es last rests ts as' e c) m
  pub changes : (p : ℕ) → p < length rests → get_or rests' p 0 ≡ changed n es rests (λ e c. cond (is_lacking last (entry_at es e) c) 0 (change (get_or ts c 0) (get_or as' c 0) (get_or ts' c 0) (get_or as'' c 0) e)) m p

pub layer_is : (rows : Rows) (rests targets amounts rests' ts' as'' : List ℕ) (step : Step) (r w : ℕ) → 1 ≤ rows.shape.group → AreLong rows (held rests targets amounts) → r < rows.shape.q → w ≡ rows.shape.group
    → Ran (entries_of rows r) rests (of_layer rows.shape.group r targets) (of_layer rows.shape.group r amounts) rests' ts' as'' step rows.shape.group (lacked_row rows.shape r) (length (entries_of rows r))
    → held rests' (put_mid (r * rows.shape.group) w targets ts') (put_mid (r * rows.shape.group) w amounts as'') ≡ layer rows step (held rests targets amounts) r
layer_is rows rests targets amounts rests' ts' as'' step r w some long lt width ran =
    let n = rows.shape.group in
    let es = entries_of rows r in
    let h = held rests targets amounts in
    let old_t = λ (c : ℕ) (low : c < n). upto_at 0 (λ x. get_or targets (r * n + x) 0) n c low in
    let old_a = λ (c : ℕ) (low : c < n). upto_at 0 (λ x. get_or amounts (r * n + x) 0) n c low in
    let p = by_places 0 (changed n es rests (change_in rows step r h) (length es)) (length rests) rests' ran.rests_long
    (λ k low. ran.changes k low ∙ changed-same plus16 n es rests _ (change_in rows step r h) (length es) (length es) k some (omega arith) (λ e c lt' low'. ap (cond (is_lacking (lacked_row rows.shape r) (entry_at es e) c) 0) (λ i. change (old_t c low' i) (old_a c low' i) (ran.targets c low' i) (ran.amounts c low' i) e)))
    in
    let t = layer_put n r w rows.shape.q targets ts' (new_target rows r h) some lt long.targets_long width ran.targets_long ran.targets in
    let a = layer_put n r w rows.shape.q amounts as'' (new_amount rows step r h) some lt long.amounts_long width ran.amounts_long ran.amounts in
    λ i. held (p i) (t i) (a i)

pub gives : (rows : Rows) (rests targets amounts rests' ts' as'' : List ℕ) (step : Step) (r n w last : ℕ) (es : List Circulant) (ts as' : List ℕ) → 1 ≤ rows.shape.group → AreLong rows (held rests targets amounts) → r < rows.shape.q
    → rows.shape.group ≡ n → w ≡ n → lacked_row rows.shape r ≡ last → entries_of rows r ≡ es → of_layer n r targets ≡ ts → of_layer n r amounts ≡ as'
    → Ran es rests ts as' rests' ts' as'' step n last (length es)
    → held rests' (put_mid (r * n) w targets ts') (put_mid (r * n) w amounts as'') ≡ layer rows step (held rests targets amounts) r
gives rows rests targets amounts rests' ts' as'' step r n w last es ts as' some long lt n_is width last_is es_is ts_is as_is ran =
    let g = rows.shape.group in
    let r1 = subst (λ (x : List Circulant). Ran x rests ts as' rests' ts' as'' step n last (length x)) (sym es_is) ran in
    let r2 = subst (λ (x : ℕ). Ran (entries_of rows r) rests ts as' rests' ts' as'' step n x (length (entries_of rows r))) (sym last_is) r1 in
    let r3 = subst (λ (x : List ℕ). Ran (entries_of rows r) rests x as' rests' ts' as'' step n (lacked_row rows.shape r) (length (entries_of rows r))) (sym ts_is) r2 in
    let r4 = subst (λ (x : List ℕ). Ran (entries_of rows r) rests (of_layer n r targets) x rests' ts' as'' step n (lacked_row rows.shape r) (length (entries_of rows r))) (sym as_is) r3 in
    let r5 = subst (λ (x : ℕ). Ran (entries_of rows r) rests (of_layer x r targets) (of_layer x r amounts) rests' ts' as'' step x (lacked_row rows.shape r) (length (entries_of rows r))) (sym n_is) r4 in
    let is = layer_is rows rests targets amounts rests' ts' as'' step r w some long lt (width ∙ sym n_is) r5 in
    subst (λ (x : ℕ). held rests' (put_mid (r * x) w targets ts') (put_mid (r * x) w amounts as'') ≡ layer rows step (held rests targets amounts) r) n_is is

pub pass_more : (rows : Rows) (step : Step) (n : ℕ) (h : Held) → fold (layer rows step) h (upto (n + 1)) ≡ layer rows step (fold (layer rows step) h (upto n)) n
pass_more rows step n h =
    ap (fold (layer rows step) h) (upto_more n) ∙ fold-append (layer rows step) h (upto n) (n ∷ [])
