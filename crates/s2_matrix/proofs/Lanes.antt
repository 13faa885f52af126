-- Sums along the lanes of planes.
use Rattle.std.proofs.Common.{◌≡◌, ◌≢◌, ℕ, suc, ◌+◌, ◌-◌, ◌*◌, ◌<◌, ◌≤◌, Bool, false, List, length, set, length-set, get_or-set_same, get_or-set_other, inl, inr, refl, sym, ap, ap₂, ◌∙◌, arith}
use Rattle.std.proofs.Math.Nat.{mul-le-mul_right}
use Rattle.std.proofs.lemmas.Bool.{cases_eq}
use Rattle.std.proofs.lemmas.Nat.{div-mul-add, mod-mul-add}
use Rattle.s2_bits.specs.Bits.{xor, bit_at}
use Rattle.s2_matrix.specs.Sums.{sum_of}
use Rattle.s2_matrix.specs.Planes.{plane_place}
use Rattle.s2_bits.proofs.Sums.{xor_comm}
use Rattle.s2_matrix.proofs.Sums.{sum_of-same, sum_of-add, sum_more}

-- n places from a place on hold what f gives, and the others what they held
pub record Filled (at n : ℕ) (f : ℕ → Bool) (old now : List Bool) : Type 0 where
  pub long : length now ≡ length old
  pub done : (i : ℕ) → i < n → bit_at now (at + i) ≡ f i
  pub front : (k : ℕ) → k < at → bit_at now k ≡ bit_at old k
  pub behind : (k : ℕ) → at + n ≤ k → bit_at now k ≡ bit_at old k

pub filled_none : (at : ℕ) (f : ℕ → Bool) (old : List Bool) → Filled at 0 f old old
filled_none at f old = record {
  long = refl;
  done = λ i h. absurd (omega arith);
  front = λ k h. refl;
  behind = λ k h. refl;
}

pub filled_more : (at n : ℕ) (f : ℕ → Bool) (old now : List Bool) (v : Bool) → at + n < length now → v ≡ f n → Filled at n f old now → Filled at (n + 1) f old (set now (at + n) v)
filled_more at n f old now v low is so_far = record {
  long = length-set now (at + n) v ∙ so_far.long;
  done = λ i h. elim (cases_eq i n) [
    | inl same ↦ ap (λ k. bit_at (set now (at + n) v) (at + k)) same ∙ get_or-set_same now (at + n) v false low ∙ is ∙ ap f (sym same)
    | inr other ↦ (
        let apart : at + i ≢ at + n = λ e. other (omega arith) in
        get_or-set_other now (at + n) (at + i) v false apart ∙ so_far.done i (omega (arith, other))
        )
  ];
  front = λ k h. (let apart : k ≢ at + n = λ e. omega arith in get_or-set_other now (at + n) k v false apart ∙ so_far.front k h);
  behind = λ k h. (let apart : k ≢ at + n = λ e. omega arith in get_or-set_other now (at + n) k v false apart ∙ so_far.behind k (omega arith));
}

-- the planes up to r hold the sums of the planes up to them, and the others what they held
pub record SummedUp (group r : ℕ) (old now : List Bool) : Type 0 where
  pub long : length now ≡ length old
  pub done : (i c : ℕ) → i < r → c < group → bit_at now (i * group + c) ≡ sum_of (λ s. bit_at old (s * group + c)) (i + 1)
  pub left : (i c : ℕ) → r ≤ i → c < group → bit_at now (i * group + c) ≡ bit_at old (i * group + c)

pub summed_one : (group : ℕ) (old : List Bool) → SummedUp group 1 old old
summed_one group old = record {
  long = refl;
  done = λ i c h low. (
      let first : i ≡ 0 = omega arith in
      ap (λ k. bit_at old (k * group + c)) first ∙ ap (λ k. sum_of (λ s. bit_at old (s * group + c)) (k + 1)) (sym first)
      );
  left = λ i c h low. refl;
}

pub summed_more : (group r : ℕ) (old now new : List Bool)
    → 1 ≤ r
    → length new ≡ length now
    → ((c : ℕ) → c < group → bit_at new (r * group + c) ≡ xor (bit_at now (r * group + c)) (bit_at now (r * group - group + c)))
    → ((k : ℕ) → k < r * group → bit_at new k ≡ bit_at now k)
    → ((k : ℕ) → r * group + group ≤ k → bit_at new k ≡ bit_at now k)
    → SummedUp group r old now
    → SummedUp group (r + 1) old new
summed_more group r old now new some long added front behind so_far = record {
  long = long ∙ so_far.long;
  done = λ i c h low. elim (cases_eq i r) [
    | inl same ↦ ap (λ k. bit_at new (k * group + c)) same ∙ last c low ∙ ap (λ k. sum_of (λ s. bit_at old (s * group + c)) (k + 1)) (sym same)
    | inr other ↦ (
        let less : suc i ≤ r = omega (arith, other) in
        let far : suc i * group ≤ r * group = mul-le-mul_right group less in
        front (i * group + c) (omega (arith, far)) ∙ so_far.done i c less low
        )
  ];
  left = λ i c h low. (
      let more : suc r ≤ i = omega arith in
      let far : suc r * group ≤ i * group = mul-le-mul_right group more in
      behind (i * group + c) (omega (arith, far)) ∙ so_far.left i c (omega arith) low
      );
}
  where
    last : (c : ℕ) → c < group → bit_at new (r * group + c) ≡ sum_of (λ s. bit_at old (s * group + c)) (r + 1)
    last c low =
        let p = r - 1 in
        let f = λ (s : ℕ). bit_at old (s * group + c) in
        let next : r ≡ suc p = omega arith in
        let many : r * group ≡ suc p * group = ap (λ k. k * group) next in
        let place : r * group - group + c ≡ p * group + c = omega (arith, many) in
        let one : p + 1 ≡ r = omega arith in
        let before : p < r = omega arith in
        added c low
        ∙ ap₂ xor (so_far.left r c (omega arith) low) (ap (bit_at now) place ∙ so_far.done p c before low ∙ ap (sum_of f) one)
        ∙ xor_comm (f r) (sum_of f r)
        ∙ sym (sum_more f r)

-- the checks of a lane follow one another
pub lane_place : (group q lane r : ℕ) → r < q → plane_place group q (lane * q + r) ≡ r * group + lane
lane_place group q lane r low = ap₂ (λ (a b : ℕ). a * group + b) (mod-mul-add lane q r low) (div-mul-add lane q r low)

-- the sum of the checks up to one of a lane
pub lane_sum : (group q lane r : ℕ) (old : List Bool) → r < q
    → xor (sum_of (λ i. bit_at old (plane_place group q i)) (lane * q)) (sum_of (λ s. bit_at old (s * group + lane)) (r + 1))
    ≡ sum_of (λ i. bit_at old (plane_place group q i)) (lane * q + (r + 1))
lane_sum group q lane r old low =
    let f = λ (i : ℕ). bit_at old (plane_place group q i) in
    ap (xor (sum_of f (lane * q))) (sum_of-same (λ s. bit_at old (s * group + lane)) (λ s. f (lane * q + s)) (r + 1) (λ s h. ap (bit_at old) (sym (lane_place group q lane s (omega arith)))))
    ∙ sym (sum_of-add f (lane * q) (r + 1))
