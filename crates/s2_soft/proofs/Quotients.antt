-- The upper halves of products with a factor, in eight lanes.
use Rattle.std.proofs.Common.{◌≡◌, ℕ, ◌*◌, ◌/◌, ◌%◌, ◌<◌, replicate, refl, sym, List, length, get_or, map, ◌∙◌, arith, ◌≤◌, mul-le-mul}
use Rattle.std.proofs.lemmas.Simd.{get_or-zip2, length-zip2, get_or-replicate, Each1-get_or}
use Rattle.std.proofs.lemmas.List.{get_or-map, length-map}
use Rattle.std.specs.Simd.Lanes.{zip2, Each1}
use mir.Syntax.{w16}
use mir.Val.{Fits}
use Rattle.s2_bits.specs.Lanes.{HasLanes}
use Rattle.s2_bits.proofs.Unsigned.{operator}

-- the products of words with a factor, in lanes of twice the width
abbrev pub factors : ℕ → List ℕ
factors f = map (λ x. x) (replicate {A = ℕ} 8 f)

abbrev pub products : ℕ → List ℕ → List ℕ
products f xs = zip2 (λ a b. a * b % 4294967296) (map (λ x. x) xs) (factors f)

pub word_fits : (xs : List ℕ) → length xs ≡ 8 → Each1 (Fits w16) xs → (k : ℕ) → k < 8 → get_or xs k 0 < 65536
word_fits xs long fit k lt = (Each1-get_or (Fits w16) xs k 0 (omega arith) fit).fits

product_small : (a b : ℕ) → a < 65536 → b < 65536 → a * b < 4294967296
product_small a b low few =
    let first : a ≤ 65535 = omega (arith, low) in
    let second : b ≤ 65535 = omega (arith, few) in
    omega (arith, mul-le-mul first second)

pub product_lanes : (f : ℕ) → f < 65536 → (xs : List ℕ) → length xs ≡ 8 → Each1 (Fits w16) xs → HasLanes 8 (λ k. get_or xs k 0 * f) (products f xs)
product_lanes f small xs long fit =
    let wide : length (map (λ x. x) xs) ≡ 8 = length-map xs (λ x. x) ∙ long in
    let broad : length (factors f) ≡ 8 = length-map (replicate {A = ℕ} 8 f) (λ x. x) in
    record {
      long = length-zip2 (λ a b. a * b % 4294967296) (map (λ x. x) xs) (factors f) (wide ∙ sym broad) ∙ wide;
      each = λ k lt.
          let x = get_or xs k 0 in
          let low = word_fits xs long fit k lt in
          let whole : x * f % 4294967296 ≡ x * f = omega (arith, product_small x f low small) in
          let factor : get_or (factors f) k 0 ≡ f = get_or-map (λ x. x) (replicate {A = ℕ} 8 f) k 0 0 lt ∙ get_or-replicate {A = ℕ} 8 k f 0 lt in
          get_or-zip2 (λ a b. a * b % 4294967296) (map (λ x. x) xs) (factors f) k 0 0 0 (omega arith) (omega arith)
          ∙ ((λ i. get_or-map (λ x. x) xs k 0 0 (omega arith) i * factor i % 4294967296) ∙ whole);
    }

-- the products' quotients by the words' modulus
abbrev pub quotients : ℕ → List ℕ → List ℕ
quotients f xs = zip2 (λ a b. a / b) (products f xs) (replicate {A = ℕ} 8 65536)

pub quotient_lanes : (f : ℕ) → f < 65536 → (xs : List ℕ) → length xs ≡ 8 → Each1 (Fits w16) xs → HasLanes 8 (λ k. get_or xs k 0 * f / 65536) (quotients f xs)
quotient_lanes f small xs long fit =
    let p = product_lanes f small xs long fit in
    let h = operator 8 (λ a b. a / b) (products f xs) (replicate {A = ℕ} 8 65536) p.long refl in
    record { long = h.long; each = λ k lt. h.each k lt ∙ (λ i. p.each k lt i / get_or-replicate {A = ℕ} 8 k 65536 0 lt i) }

pub quotient_small : (a b : ℕ) → a < 65536 → b < 65536 → a * b / 65536 < 65536
quotient_small a b low few = omega (arith, product_small a b low few)

pub same_lanes : (f : ℕ → ℕ) (xs : List ℕ) → HasLanes 8 f xs → HasLanes 8 f (map (λ x. x) xs)
same_lanes f xs h =
    let long = h.long in
    record { long = length-map xs (λ x. x) ∙ long; each = λ k lt. get_or-map (λ x. x) xs k 0 0 (omega arith) ∙ h.each k lt }
