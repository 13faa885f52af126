-- Lanes that are written entry by entry, and checks of a layer that are exchanged one block of lanes after another.
use Rattle.std.proofs.Common.{◌≡◌, ℕ, suc, ◌+◌, ◌-◌, ◌*◌, ◌<◌, ◌≤◌, List, length, get_or, refl, ap, sym, ◌∙◌, inl, inr, arith}
use Rattle.std.proofs.Math.Nat.{mul-le-mul_right}
use Rattle.std.proofs.lemmas.Bool.{cases_lt, cases_eq}
use Rattle.std.proofs.lemmas.Simd.{get_or-put_chunk_below, get_or-put_chunk_at, get_or-put_chunk_above}
use Rattle.std.specs.Simd.Lanes.{put_chunk}
use Rattle.s2_bits.specs.Lanes.{HasLanes}
use Rattle.s2_bits.proofs.RowParts.{row_before, row_room}
use Rattle.s2_minsum.specs.Rows.{cell}
use Rattle.s2_settle.specs.declared.course.Step.{Step}
use Rattle.s2_settle.specs.Rests.{change}
use Rattle.s2_settle.specs.Nodes.{least_at, amount_of}
use Rattle.s2_settle.specs.Exchange.{AreWritten, AreExchanged}
use Rattle.s2_settle.proofs.Sames.{least_at-same, amount_of-same}

-- ---- lanes of one entry that are written

-- a place of rows of n lies before or behind so many lanes of one row, if not among them
by_place : {P : Type 0} (n e at w d c : ℕ) → at + w ≤ n → c < n → (d ≡ e → at ≤ c → c < at + w → ⊥) → (d * n + c < e * n + at → P) → (e * n + at + w ≤ d * n + c → P) → P
by_place n e at w d c inside low off before behind = elim (cases_lt d e) [
  | inl less ↦ (let b = row_before n e d c less low in before (omega arith))
  | inr le ↦ elim (cases_eq d e) [
    | inr other ↦ (
        let beyond : suc e * n ≤ d * n = mul-le-mul_right n (omega arith) in
        behind (omega arith)
        )
    | inl same ↦ (
        let row : d * n ≡ e * n = ap (λ x. x * n) same in
        elim (cases_lt c at) [
          | inl less ↦ before (omega arith)
          | inr le' ↦ elim (cases_lt c (at + w)) [
            | inl lt ↦ absurd (off same le' lt)
            | inr far ↦ behind (omega arith)
          ]
        ]
        )
  ]
]

-- so many lanes of one row are written
module _ (n count e at w : ℕ) (xs ys : List ℕ) (inside : at + w ≤ n) (lt : e < count) (size : length xs ≡ count * n) (long : length ys ≡ w) where
  room : e * n + at + w ≤ length xs
  room = omega (arith, row_room n e count (length xs) lt size)

  lanes_same : (k : ℕ) → k < w → cell (put_chunk (e * n + at) xs ys) n e (at + k) ≡ get_or ys k 0
  lanes_same k low =
      let place : e * n + (at + k) ≡ e * n + at + k = omega arith in
      ap (λ p. get_or (put_chunk (e * n + at) xs ys) p 0) place ∙ get_or-put_chunk_at (e * n + at) xs ys k 0 (omega arith) (omega (arith, room))

  lanes_other : (d c : ℕ) → c < n → (d ≡ e → at ≤ c → c < at + w → ⊥) → cell (put_chunk (e * n + at) xs ys) n d c ≡ cell xs n d c
  lanes_other d c low off = by_place n e at w d c inside low off (λ before. get_or-put_chunk_below (e * n + at) xs ys (d * n + c) 0 before) (λ behind. get_or-put_chunk_above (e * n + at) xs ys (d * n + c) 0 (omega arith))

-- ---- the changes of some checks, entry by entry

pub record WrittenSoFar (n count at w done : ℕ) (new : ℕ → ℕ → ℕ) (old now : List ℕ) : Type 0 where
  pub written : (e k : ℕ) → e < done → k < w → cell now n e (at + k) ≡ new e k
  pub left : (e c : ℕ) → c < n → (e < done → at ≤ c → c < at + w → ⊥) → cell now n e c ≡ cell old n e c

pub written_none : (n count at w : ℕ) (new : ℕ → ℕ → ℕ) (old : List ℕ) → WrittenSoFar n count at w 0 new old old
written_none n count at w new old = record {
  written = λ e k lt low. absurd (omega (arith, lt));
  left = λ e c low off. refl;
}

pub written_all : (n count at w done : ℕ) (new : ℕ → ℕ → ℕ) (old now : List ℕ) → done ≡ count → WrittenSoFar n count at w done new old now → AreWritten n count at w new old now
written_all n count at w done new old now all s = record {
  written = λ e k lt low. s.written e k (omega arith) low;
  left = λ e c lt low off. s.left e c low (λ _ le below. off le below);
}

-- one entry more
pub written_more : (n count at w e : ℕ) (new : ℕ → ℕ → ℕ) (old now ys : List ℕ) → at + w ≤ n → e < count → length now ≡ count * n → HasLanes w (new e) ys
    → WrittenSoFar n count at w e new old now → WrittenSoFar n count at w (e + 1) new old (put_chunk (e * n + at) now ys)
written_more n count at w e new old now ys inside lt size are s = record {
  written = λ d k below low. elim (cases_eq d e) [
    | inl same ↦ ap (λ x. cell (put_chunk (e * n + at) now ys) n x (at + k)) same ∙ lanes_same n count e at w now ys inside lt size are.long k low ∙ are.each k low ∙ ap (λ x. new x k) (sym same)
    | inr other ↦ lanes_other n count e at w now ys inside lt size are.long d (at + k) (omega arith) (λ same _ _. other same) ∙ s.written d k (omega arith) low
  ];
  left = λ d c low off. lanes_other n count e at w now ys inside lt size are.long d c low (λ same. off (omega arith)) ∙ s.left d c low (λ less. off (omega arith));
}

-- ---- checks that are exchanged

pub exchanged_none : (step : Step) (n count : ℕ) (inputs targets amounts : List ℕ) → AreExchanged step n count 0 0 inputs targets amounts inputs targets amounts
exchanged_none step n count inputs targets amounts = record {
  targets_are = λ c le below. absurd (omega (arith, below));
  amounts_are = λ c le below. absurd (omega (arith, below));
  changes = λ e c lt le below. absurd (omega (arith, below));
  inputs_left = λ e c lt low off. refl;
  targets_left = λ c low off. refl;
  amounts_left = λ c low off. refl;
}

-- the lanes that are written are exchanged, where what is written is what the inputs make
pub exchanged_by : (step : Step) (n count at w : ℕ) (inputs targets amounts inputs' ts as' : List ℕ) → at + w ≤ n → length targets ≡ n → length amounts ≡ n
    → HasLanes w (λ k. least_at (λ e. cell inputs n e (at + k)) count) ts
    → HasLanes w (λ k. amount_of step (get_or targets (at + k) 0) (get_or amounts (at + k) 0) (λ e. cell inputs n e (at + k)) count) as'
    → AreWritten n count at w (λ e k. change (get_or targets (at + k) 0) (get_or amounts (at + k) 0) (get_or ts k 0) (get_or as' k 0) e) inputs inputs'
    → AreExchanged step n count at (at + w) inputs targets amounts inputs' (put_chunk at targets ts) (put_chunk at amounts as')
exchanged_by step n count at w inputs targets amounts inputs' ts as' inside long long' t a s =
    let new_t : (k : ℕ) → k < w → get_or (put_chunk at targets ts) (at + k) 0 ≡ get_or ts k 0 = λ k low. get_or-put_chunk_at at targets ts k 0 (omega (arith, t.long, low)) (omega (arith, t.long, inside, long)) in
    let new_a : (k : ℕ) → k < w → get_or (put_chunk at amounts as') (at + k) 0 ≡ get_or as' k 0 = λ k low. get_or-put_chunk_at at amounts as' k 0 (omega (arith, a.long, low)) (omega (arith, a.long, inside, long')) in
    record {
      targets_are = λ c le below.
          let place : at + (c - at) ≡ c = omega arith in
          let low : c - at < w = omega arith in
          ap (λ x. get_or (put_chunk at targets ts) x 0) (sym place) ∙ new_t (c - at) low ∙ t.each (c - at) low ∙ ap (λ x. least_at (λ e. cell inputs n e x) count) place;
      amounts_are = λ c le below.
          let place : at + (c - at) ≡ c = omega arith in
          let low : c - at < w = omega arith in
          ap (λ x. get_or (put_chunk at amounts as') x 0) (sym place) ∙ new_a (c - at) low ∙ a.each (c - at) low ∙ ap (λ x. amount_of step (get_or targets x 0) (get_or amounts x 0) (λ e. cell inputs n e x) count) place;
      changes = λ e c lt le below.
          let place : at + (c - at) ≡ c = omega arith in
          let low : c - at < w = omega arith in
          ap (λ x. cell inputs' n e x) (sym place) ∙ s.written e (c - at) lt low
          ∙ (λ i. change (get_or targets (at + (c - at)) 0) (get_or amounts (at + (c - at)) 0) (sym (new_t (c - at) low) i) (sym (new_a (c - at) low) i) e)
          ∙ ap (λ x. change (get_or targets x 0) (get_or amounts x 0) (get_or (put_chunk at targets ts) x 0) (get_or (put_chunk at amounts as') x 0) e) place;
      inputs_left = s.left;
      targets_left = λ c low off. outside targets ts c t.long off;
      amounts_left = λ c low off. outside amounts as' c a.long off;
    }
  where
    outside : (xs ys : List ℕ) (c : ℕ) → length ys ≡ w → (at ≤ c → c < at + w → ⊥) → get_or (put_chunk at xs ys) c 0 ≡ get_or xs c 0
    outside xs ys c ylen off = elim (cases_lt c at) [
      | inl less ↦ get_or-put_chunk_below at xs ys c 0 less
      | inr le ↦ elim (cases_lt c (at + w)) [
        | inl lt ↦ absurd (off le lt)
        | inr far ↦ get_or-put_chunk_above at xs ys c 0 (omega (arith, ylen, far))
      ]
    ]

-- some lanes more
pub exchanged_more : (step : Step) (n count mid to : ℕ) (inputs targets amounts inputs' targets' amounts' xs ts as' : List ℕ) → mid ≤ to → to ≤ n
    → AreExchanged step n count 0 mid inputs targets amounts inputs' targets' amounts' → AreExchanged step n count mid to inputs' targets' amounts' xs ts as' → AreExchanged step n count 0 to inputs targets amounts xs ts as'
exchanged_more step n count mid to inputs targets amounts inputs' targets' amounts' xs ts as' rise end first second =
    let kept : (x c : ℕ) → x < count → mid ≤ c → c < n → cell inputs' n x c ≡ cell inputs n x c = λ x c l le low. first.inputs_left x c l low (λ _ less. omega (arith, le, less)) in
    let t_kept : (c : ℕ) → mid ≤ c → c < n → get_or targets' c 0 ≡ get_or targets c 0 = λ c le low. first.targets_left c low (λ _ less. omega (arith, le, less)) in
    let a_kept : (c : ℕ) → mid ≤ c → c < n → get_or amounts' c 0 ≡ get_or amounts c 0 = λ c le low. first.amounts_left c low (λ _ less. omega (arith, le, less)) in
    record {
      targets_are = λ c le below. elim (cases_lt c mid) [
        | inl less ↦ second.targets_left c (omega arith) (λ le' _. omega (arith, le', less)) ∙ first.targets_are c le less
        | inr le' ↦ second.targets_are c le' below ∙ least_at-same (λ e. cell inputs' n e c) (λ e. cell inputs n e c) count count (omega arith) (λ x l. kept x c l le' (omega arith))
      ];
      amounts_are = λ c le below. elim (cases_lt c mid) [
        | inl less ↦ second.amounts_left c (omega arith) (λ le' _. omega (arith, le', less)) ∙ first.amounts_are c le less
        | inr le' ↦ second.amounts_are c le' below ∙ (λ i. amount_of step (t_kept c le' (omega arith) i) (a_kept c le' (omega arith) i) (λ e. cell inputs' n e c) count)
            ∙ amount_of-same step (get_or targets c 0) (get_or amounts c 0) (λ e. cell inputs' n e c) (λ e. cell inputs n e c) count (λ x l. kept x c l le' (omega arith))
      ];
      changes = λ e c lt le below. elim (cases_lt c mid) [
        | inl less ↦ (
            let t = second.targets_left c (omega arith) (λ le' _. omega (arith, le', less)) in
            let a = second.amounts_left c (omega arith) (λ le' _. omega (arith, le', less)) in
            second.inputs_left e c lt (omega arith) (λ le' _. omega (arith, le', less)) ∙ first.changes e c lt le less ∙ (λ i. change (get_or targets c 0) (get_or amounts c 0) (sym t i) (sym a i) e)
            )
        | inr le' ↦ second.changes e c lt le' below ∙ (λ i. change (t_kept c le' (omega arith) i) (a_kept c le' (omega arith) i) (get_or ts c 0) (get_or as' c 0) e)
      ];
      inputs_left = λ e c lt low off. second.inputs_left e c lt low (λ le less. off (omega arith) less) ∙ first.inputs_left e c lt low (λ le less. off le (omega arith));
      targets_left = λ c low off. second.targets_left c low (λ le less. off (omega arith) less) ∙ first.targets_left c low (λ le less. off le (omega arith));
      amounts_left = λ c low off. second.amounts_left c low (λ le less. off (omega arith) less) ∙ first.amounts_left c low (λ le less. off le (omega arith));
    }
