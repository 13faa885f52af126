-- Bits of a header in registers and numbers, the last one the lowest.
use Rattle.std.proofs.Common.{◌≡◌, ℕ, zero, suc, ◌+◌, ◌-◌, ◌*◌, ◌/◌, ◌%◌, ◌^◌, ◌<◌, ◌≤◌, ◌≢◌, Bool, true, false, List, [], ◌∷◌, ◌++◌, get_or, length, length-append, length-drop, add-one, map, pos, not, min, max, bit_xor, inl, inr, refl, sym, ap, subst, ◌∙◌, arith}
use Rattle.std.specs.Prelude.{◌==◌, ◌&&◌, ◌||◌, nat_le, if◌then◌else◌}
use Rattle.std.specs.Int.{bit_at as digit}
use Rattle.std.specs.Int.RustNames.{count_ones}
use Rattle.std.specs.Int.Count.{ones, ones_in, ones_step}
use Rattle.std.specs.Int.Bits.{bit_and, bit_or}
use Rattle.std.proofs.lemmas.Bool.{cases_lt, eqb-true, lt-ltb, le-ltb}
use Rattle.std.proofs.lemmas.Nat.{shr-shr, and_le_r, or_lt, xor_lt}
use Rattle.std.proofs.lemmas.Nat.Bits.{bit_at_lowest, bit_at-suc, bit_at_and, bit_at_or, bit_at_xor, bit_at_cat_low, bit_at-lt}
use Rattle.std.proofs.lemmas.List.{get_or_append_left, get_or-append_right, get_or-drop}
use Rattle.std.proofs.lemmas.List.FromFn.{fill_by_all, get_or-map-range_with_len, length-map-range_with_len}
use Rattle.std.proofs.Math.Pow.{pow_mono}
use Rattle.std.proofs.Math.Nat.{pow-suc, add_comm}
use Rattle.std.proofs.lemmas.Bool.Decides.{eqb_tells}
use Rattle.std.specs.Bool.{beq}
use mir.Val.{bool_byte}
use Rattle.s2_bits.specs.Bits.{xor, number}
use Rattle.s2_bits.proofs.Sums.{xor_code}
use Rattle.s2_plframe.proofs.Payloads.{number_small}
use Rattle.std.proofs.Math.ListN.{get_or-map}
use Rattle.s2_mode.specs.declared.symbols.Symbol.{Symbol}
use Rattle.s2_mode.specs.Symbols.{symbol, symbol_at}
use Rattle.s2_mode.specs.Mode.{Mode}
use Rattle.s2_plframe.specs.Header.{header_bit, dummy_mode}
use Rattle.s2_plframe.specs.declared.receive.found.Found.TheVariants as founds
use Rattle.s2_plframe.specs.Search.{Decision, decision, decided, mismatches, matches_header, decision_at, found}
use Rattle.s2_plframe.specs.Inside.{held, held_list, is_near, found_by, AreHeaders, IsHeader, IsWindow}

-- ---- one more bit

pub newest : (r b : ℕ) → b ≤ 1 → digit (r * 2 % 2 ^ 128 + b) 0 ≡ b
newest r b small =
    let even : (r * 2 % 340282366920938463463374607431768211456 + b) % 2 ≡ b = omega arith in
    bit_at_lowest (r * 2 % 2 ^ 128 + b) ∙ even

pub others : (r b j : ℕ) → b ≤ 1 → j < 127 → digit (r * 2 % 2 ^ 128 + b) (j + 1) ≡ digit r j
others r b j small lt =
    let half : (r * 2 % 340282366920938463463374607431768211456 + b) / 2 ≡ r % 170141183460469231731687303715884105728 = omega arith in
    let whole : r / 170141183460469231731687303715884105728 * 170141183460469231731687303715884105728 + r % 170141183460469231731687303715884105728 ≡ r = omega arith in
    let next : j + 1 ≡ suc j = omega arith in
    ap (digit (r * 2 % 2 ^ 128 + b)) next
    ∙ (bit_at-suc (r * 2 % 2 ^ 128 + b) j
    ∙ (ap (λ n. digit n j) half
    ∙ (sym (bit_at_cat_low (r / 2 ^ 127) 127 (r % 2 ^ 127) j lt) ∙ ap (λ n. digit n j) whole)))

pub byte_small : (b : Bool) → bool_byte b ≤ 1
byte_small true = omega arith
byte_small false = omega arith

-- ---- the bits of two registers

-- what a test shows at each number below n
all_below : (ℕ → Bool) → ℕ → Bool
all_below test zero = true
all_below test (suc n) = test n && all_below test n

at_each : (test : ℕ → Bool) (n k : ℕ) → all_below test n ≡ true → k < n → test k ≡ true
unfolding all_below
at_each test zero k passes lt = absurd (omega arith)
at_each test (suc n) k passes lt =
    let parts = both (test n) (all_below test n) passes in
    elim (cases_lt k n) [
      | inl below ↦ at_each test n k parts.1 below
      | inr above ↦ let same : n ≡ k = omega arith in subst (λ j. test j ≡ true) same parts.0
    ]
  where
    both : (a b : Bool) → (a && b) ≡ true → (a ≡ true) × (b ≡ true)
    both true b e = (refl, e)
    both false b e = (e, absurd (cc))

-- the masks have the bits at odd and at even places
odd_mask : (i : ℕ) → i < 90 → digit 825293359523586849932749482 i ≡ i % 2
unfolding all_below
odd_mask i lt = eqb-true (digit 825293359523586849932749482 i) (i % 2) (at_each (λ i. digit 825293359523586849932749482 i == i % 2) 90 i refl lt)

even_mask : (i : ℕ) → i < 90 → digit 412646679761793424966374741 i ≡ (i + 1) % 2
unfolding all_below
even_mask i lt = eqb-true (digit 412646679761793424966374741 i) ((i + 1) % 2) (at_each (λ i. digit 412646679761793424966374741 i == (i + 1) % 2) 90 i refl lt)

pub mixed_small : (odd even : ℕ) → bit_or (bit_and odd 825293359523586849932749482) (bit_and even 412646679761793424966374741) < 2 ^ 90
mixed_small odd even =
    let first : bit_and odd 825293359523586849932749482 ≤ 825293359523586849932749482 = and_le_r odd 825293359523586849932749482 in
    let second : bit_and even 412646679761793424966374741 ≤ 412646679761793424966374741 = and_le_r even 412646679761793424966374741 in
    or_lt 90 (bit_and odd 825293359523586849932749482) (bit_and even 412646679761793424966374741) (omega arith) (omega arith)

mixed_digit : (odd even i : ℕ) → i < 90 → digit (bit_or (bit_and odd 825293359523586849932749482) (bit_and even 412646679761793424966374741)) i ≡ max (min (digit odd i) (i % 2)) (min (digit even i) ((i + 1) % 2))
mixed_digit odd even i lt =
    bit_at_or (bit_and odd 825293359523586849932749482) (bit_and even 412646679761793424966374741) i
    ∙ (λ t. max ((bit_at_and odd 825293359523586849932749482 i ∙ ap (min (digit odd i)) (odd_mask i lt)) t) ((bit_at_and even 412646679761793424966374741 i ∙ ap (min (digit even i)) (even_mask i lt)) t))

pub mixed_bits : (odd even k : ℕ) → k < 90 → digit (bit_or (bit_and odd 825293359523586849932749482) (bit_and even 412646679761793424966374741)) (89 - k) ≡ (if k % 2 == 0 then digit odd (89 - k) else digit even (89 - k))
mixed_bits odd even k lt =
    let i = 89 - k in
    let small : digit odd i < 2 = bit_at-lt odd i in
    let small_2 : digit even i < 2 = bit_at-lt even i in
    elim (eqb_tells (k % 2) 0) [
      | inl same ↦
          let is : k % 2 ≡ 0 = same.1 in
          let picked : max (min (digit odd i) (i % 2)) (min (digit even i) ((i + 1) % 2)) ≡ digit odd i = omega arith in
          rw same.0 (mixed_digit odd even i (omega arith) ∙ picked)
      | inr other ↦
          let is : k % 2 ≢ 0 = other.1 in
          let picked : max (min (digit odd i) (i % 2)) (min (digit even i) ((i + 1) % 2)) ≡ digit even i = omega arith in
          rw other.0 (mixed_digit odd even i (omega arith) ∙ picked)
    ]

-- ---- a header, bit by bit

-- the first n bits of a header as a number
pub record HoldsBits (header : ℕ → Bool) (n value : ℕ) : Type 0 where
  pub small : value < 2 ^ n
  pub bits : (k : ℕ) → k < n → digit value (n - 1 - k) ≡ number (header k)

pub HoldsBits-none : (header : ℕ → Bool) → HoldsBits header 0 0
HoldsBits-none header = record { small = omega arith; bits = λ k lt. absurd (omega arith) }

pub HoldsBits-more : (header : ℕ → Bool) (n value next : ℕ) (b : Bool) → n < 90 → HoldsBits header n value → b ≡ header n
    → digit next 0 ≡ number b → ((j : ℕ) → j < 127 → digit next (j + 1) ≡ digit value j) → (value < 2 ^ 127 → next ≡ 2 * value + number b)
    → HoldsBits header (n + 1) next
HoldsBits-more header n value next b few held is low high whole =
    let below : n ≤ 127 = omega arith in
    let most : 2 ^ n ≤ 2 ^ 127 = pow_mono {i = n} {j = 127} below in
    let held_small : value < 2 ^ n = held.small in
    let sum : next ≡ 2 * value + number b = whole (omega arith) in
    let bit : number b ≤ 1 = number_small b in
    let double : 2 ^ (n + 1) ≡ 2 ^ n * 2 = ap (λ m. 2 ^ m) (omega arith) ∙ pow-suc 2 n in
    record {
      small = omega arith;
      bits = λ k lt. elim (cases_lt k n) [
        | inl below ↦
            let place : n + 1 - 1 - k ≡ n - 1 - k + 1 = omega arith in
            ap (digit next) place ∙ (high (n - 1 - k) (omega arith) ∙ held.bits k below)
        | inr above ↦
            let place : n + 1 - 1 - k ≡ 0 = omega arith in
            let same : n ≡ k = omega arith in
            ap (digit next) place ∙ (low ∙ ap number (is ∙ ap header same))
      ];
    }

pub HoldsBits-whole : (header : ℕ → Bool) (n value : ℕ) → n ≡ 90 → HoldsBits header n value → IsHeader header value
HoldsBits-whole header n value all held =
    record {
      small = subst (λ m. value < 2 ^ m) all held.small;
      bits = λ k lt.
          let inside : k < n = omega arith in
          let place : 89 - k ≡ n - 1 - k = omega arith in
          ap (digit value) place ∙ held.bits k inside;
    }
