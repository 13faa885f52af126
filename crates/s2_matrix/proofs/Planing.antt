-- Checks in planes.
use Rattle.std.proofs.Common.{◌≡◌, ◌≢◌, ℕ, zero, suc, ◌+◌, ◌-◌, ◌*◌, ◌/◌, ◌%◌, ◌<◌, ◌≤◌, ◌==◌, ◌&&◌, Bool, false, replicate, List, ◌++◌, length, take, drop, inl, inr, refl, sym, ap, ap₂, ◌∙◌, arith, eq-eqb, ne_eqb}
use Rattle.std.proofs.Math.Nat.{mod-eq_of_lt, add-mod_right, add-mul-mod_self_right, mul-le-mul_right}
use Rattle.std.proofs.lemmas.Bool.{cases_eq, cases_lt}
use Rattle.std.proofs.lemmas.List.{get_or_append_left, get_or-append_right, get_or-take, get_or-drop, length-take-le}
use Rattle.s2_bits.specs.Bits.{xor, bit_at}
use Rattle.s2_matrix.proofs.Joins.{div_below, mod_cancel}
use Rattle.s2_bits.proofs.Steps.{by_order}
use Rattle.s2_matrix.specs.Sums.{sum_of}
use Rattle.s2_matrix.specs.Planes.{plane_place}
use Rattle.s2_bits.specs.Rotations.{rotated}
use Rattle.s2_bits.proofs.Sums.{xor_none}
use Rattle.s2_bits.proofs.Pieces.{rotated_low, rotated_high, rotated_below}
use Rattle.s2_matrix.proofs.Sums.{sum_of-none, sum_of-one}

-- ---- what one address gives

-- which bit of the group an address brings to check j
pub hit_place : (n q x j : ℕ) → 1 ≤ q → x < n * q → j < n * q → j % q ≡ x % q → (x + rotated n (x / q) (j / q) * q) % (n * q) ≡ j
hit_place n q x j some hx hj same =
    let s = x / q in
    let c = j / q in
    let qn : n * q ≡ q * n = omega arith in
    let hs : s < n = div_below x q n some (omega arith) in
    let hc : c < n = div_below j q n some (omega arith) in
    let ex : x ≡ x / q * q + x % q = omega arith in
    let ej : j ≡ j / q * q + j % q = omega arith in
    by_order c s
    (λ less. (
    let d = n - s + c in
    let e : rotated n s c ≡ n - s + c = rotated_low n s c less (omega arith) in
    let whole : s + (n - s + c) ≡ n + c = omega arith in
    let many : (s + (n - s + c)) * q ≡ (n + c) * q = ap (λ k. k * q) whole in
    let sum : x + (n - s + c) * q ≡ j + n * q = omega (arith, ex, ej, same, many) in
    ap (λ m. (x + m * q) % (n * q)) e ∙ ap (λ k. k % (n * q)) sum ∙ add-mod_right j (n * q) ∙ mod-eq_of_lt hj
    ))
    (λ more. (
    let e : rotated n s c ≡ c - s = rotated_high n s c more hc in
    let whole : s + (c - s) ≡ c = omega arith in
    let many : (s + (c - s)) * q ≡ c * q = ap (λ k. k * q) whole in
    let sum : x + (c - s) * q ≡ j = omega (arith, ex, ej, same, many) in
    ap (λ m. (x + m * q) % (n * q)) e ∙ ap (λ k. k % (n * q)) sum ∙ mod-eq_of_lt hj
    ))

-- the layer of the check that an address gives
pub hit_layer : (n q x m j : ℕ) → (x + m * q) % (n * q) ≡ j → j % q ≡ x % q
hit_layer n q x m j e =
    let v = x + m * q in
    let t = v / (n * q) in
    let whole : x + m * q ≡ j + (x + m * q) / (n * q) * n * q = omega (arith, e) in
    sym (add-mul-mod_self_right j ((x + m * q) / (n * q) * n) q) ∙ ap (λ k. k % q) (sym whole) ∙ add-mul-mod_self_right x m q

times_cancel : (a b q : ℕ) → 1 ≤ q → a * q ≡ b * q → a ≡ b
times_cancel a b q some e =
    elim (cases_lt a b) [
      | inl less ↦ (let big = mul-le-mul_right q less in absurd (omega (arith, big)))
      | inr le ↦ elim (cases_lt b a) [ inl more ↦ (let big = mul-le-mul_right q more in absurd (omega (arith, big))) | inr ge ↦ omega arith ]
    ]

-- and only that bit
pub hit_only : (n q x j m : ℕ) → 1 ≤ q → x < n * q → j < n * q → m < n → (x + m * q) % (n * q) ≡ j → m ≡ rotated n (x / q) (j / q)
hit_only n q x j m some hx hj less e =
    let m0 = rotated n (x / q) (j / q) in
    let one : 1 ≤ n = omega (arith, less) in
    let low : m0 < n = rotated_below n (x / q) (j / q) one in
    let at = hit_place n q x j some hx hj (hit_layer n q x m j e) in
    let left : (m * q + x) % (n * q) ≡ (m0 * q + x) % (n * q) = ap (λ k. k % (n * q)) (plus (m * q) x) ∙ e ∙ sym at ∙ ap (λ k. k % (n * q)) (plus x (m0 * q)) in
    times_cancel m m0 q some (mod_cancel (m * q) (m0 * q) x (n * q) (small m less) (small m0 low) left)
  where
    plus : (a b : ℕ) → a + b ≡ b + a
    plus a b = omega arith

    small : (m' : ℕ) → m' < n → m' * q < n * q
    small m' below = let big = mul-le-mul_right q below in omega (arith, big)

-- the bits of a group that an address adds to check j: one bit of its layer's checks, and none of others
pub hits_same : (w : ℕ → Bool) (n q x j : ℕ) → 1 ≤ q → x < n * q → j < n * q → j % q ≡ x % q → sum_of (λ m. ((x + m * q) % (n * q) == j) && w m) n ≡ w (rotated n (x / q) (j / q))
hits_same w n q x j some hx hj same =
    let m0 = rotated n (x / q) (j / q) in
    let low : m0 < n = rotated_below n (x / q) (j / q) (positive n hx) in
    let at = hit_place n q x j some hx hj same in
    sum_of-one (λ m. ((x + m * q) % (n * q) == j) && w m) m0 n low (λ m less other. ap (λ b. b && w m) (ne_eqb ((x + m * q) % (n * q)) j (λ e. other (hit_only n q x j m some hx hj less e))))
    ∙ ap (λ b. b && w m0) (eq-eqb ((x + m0 * q) % (n * q)) j at)
  where
    positive : (n' : ℕ) → x < n' * q → 1 ≤ n'
    positive zero h = absurd (omega arith)
    positive (suc n') h = omega arith

pub hits_other : (w : ℕ → Bool) (n q x j : ℕ) → j % q ≢ x % q → sum_of (λ m. ((x + m * q) % (n * q) == j) && w m) n ≡ false
hits_other w n q x j other =
    sum_of-none (λ m. ((x + m * q) % (n * q) == j) && w m) n (λ m less. ap (λ b. b && w m) (ne_eqb ((x + m * q) % (n * q)) j (λ e. other (hit_layer n q x m j e))))

-- ---- one plane of all is rewritten

pub place_within : (n q j : ℕ) → 1 ≤ q → j < n * q → plane_place n q j < n * q
place_within n q j some h =
    let qn : n * q ≡ q * n = omega arith in
    let lane : j / q < n = div_below j q n some (omega arith) in
    let layer : suc (j % q) ≤ q = omega arith in
    let big = mul-le-mul_right n layer in
    omega (arith, big)

pub plane_added : (w : ℕ → Bool) (planes before plane plane' after : List Bool) (n q x j : ℕ) → 1 ≤ q → x < n * q → j < n * q → n * q ≤ length planes → before ≡ take (x % q * n) planes → plane ≡ take n (drop (x % q * n) planes) → after ≡ drop n (drop (x % q * n) planes) → length plane' ≡ n → ((c : ℕ) → c < n → bit_at plane' c ≡ xor (bit_at plane c) (w (rotated n (x / q) c))) → bit_at (before ++ (plane' ++ after)) (plane_place n q j) ≡ xor (bit_at planes (plane_place n q j)) (sum_of (λ m. ((x + m * q) % (n * q) == j) && w m) n)
plane_added w planes before plane plane' after n q x j some hx hj room eb ep ea long added =
    let a = x % q in
    let r = j % q in
    let c = j / q in
    let qn : n * q ≡ q * n = omega arith in
    let lane : c < n = div_below j q n some (omega arith) in
    let layer : suc (x % q) ≤ q = omega arith in
    let big = mul-le-mul_right n layer in
    let front : length before ≡ x % q * n = ap length eb ∙ length-take-le (x % q * n) planes (omega (arith, big)) in
    elim (cases_eq r a) [
      | inl same ↦ (
          let at : r * n + c ≡ a * n + c = ap (λ k. k * n + c) same in
          let past : a * n ≤ a * n + c = omega arith in
          let there : a * n + c - a * n ≡ c = omega arith in
          let old : bit_at plane c ≡ bit_at planes (a * n + c) = ap (λ l. bit_at l c) ep ∙ get_or-take n (drop (a * n) planes) c false lane ∙ get_or-drop (a * n) planes c false in
          let within : c < length plane' = omega arith in
          ap (bit_at (before ++ (plane' ++ after))) at ∙ get_or-append_right before (plane' ++ after) (a * n) (a * n + c) false front past ∙ ap (bit_at (plane' ++ after)) there ∙ get_or_append_left plane' after false c within ∙ added c lane ∙ ap₂ xor (old ∙ ap (bit_at planes) (sym at)) (sym (hits_same w n q x j some hx hj same))
          )
      | inr other ↦ (
          let none = ap (xor (bit_at planes (r * n + c))) (hits_other w n q x j other) ∙ xor_none (bit_at planes (r * n + c)) in
          elim (cases_lt r a) [
            | inl less ↦ (
                let far = mul-le-mul_right n less in
                let early : r * n + c < a * n = omega (arith, far) in
                get_or_append_left before (plane' ++ after) false (r * n + c) (omega arith) ∙ ap (λ l. bit_at l (r * n + c)) eb ∙ get_or-take (a * n) planes (r * n + c) false early ∙ sym none
                )
            | inr ge ↦ (
                let more : suc a ≤ r = omega (arith, other) in
                let far = mul-le-mul_right n more in
                let past : a * n ≤ r * n + c = omega (arith, far) in
                let past' : n ≤ r * n + c - a * n = omega (arith, far) in
                let back : a * n + (n + (r * n + c - a * n - n)) ≡ r * n + c = omega (arith, far) in
                get_or-append_right before (plane' ++ after) (a * n) (r * n + c) false front past ∙ get_or-append_right plane' after n (r * n + c - a * n) false long past' ∙ ap (λ l. bit_at l (r * n + c - a * n - n)) ea ∙ get_or-drop n (drop (a * n) planes) (r * n + c - a * n - n) false ∙ get_or-drop (a * n) planes (n + (r * n + c - a * n - n)) false ∙ ap (bit_at planes) back ∙ sym none
                )
          ]
          )
    ]

-- a piece of the bits twice over is the bits rotated
pub twice_rotated : (bits : List Bool) (s k : ℕ) → s ≤ length bits → k < length bits → bit_at (bits ++ bits) (length bits - s + k) ≡ bit_at bits (rotated (length bits) s k)
twice_rotated bits s k le lt =
    let n = length bits in
    by_order k s
    (λ less. (
    let within : n - s + k < n = omega arith in
    get_or_append_left bits bits false (n - s + k) within ∙ ap (bit_at bits) (sym (rotated_low n s k less le))
    ))
    (λ more. (
    let past : n ≤ n - s + k = omega arith in
    let at : n - s + k - n ≡ k - s = omega arith in
    get_or-append_right bits bits n (n - s + k) false refl past ∙ ap (bit_at bits) (at ∙ sym (rotated_high n s k more lt))
    ))

-- rotated by no place
pub not_rotated : (n k : ℕ) → k < n → rotated n 0 k ≡ k
not_rotated n k lt =
    let none : 0 ≤ k = omega arith in
    let same : k - 0 ≡ k = omega arith in
    rotated_high n 0 k none lt ∙ same

-- planes of zeros are empty
pub empty_planes : (n k : ℕ) → bit_at (replicate n false) k ≡ false
empty_planes zero k = refl
empty_planes (suc n) zero = refl
empty_planes (suc n) (suc k) = empty_planes n k
