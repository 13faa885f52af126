-- Which checks are odd, by the parity bits that the information bits ask for.
use Rattle.std.proofs.Common.{◌≡◌, ◌≢◌, ℕ, zero, suc, ◌+◌, ◌-◌, ◌%◌, ◌<◌, ◌≤◌, ◌==◌, Bool, true, false, List, length, set, length-set, get_or-set_same, get_or-set_other, take, drop, inl, inr, refl, sym, ap, ap₂, ◌∙◌, arith, eq-eqb, ne_eqb}
use Rattle.std.proofs.lemmas.Bool.{cases_eq}
use Rattle.std.proofs.lemmas.List.{get_or-take, get_or-drop, length-take-le}
use Rattle.s2_bits.specs.Bits.{xor, bit_at, number}
use Rattle.s2_bits.proofs.Sums.{xor_none, xor_assoc}
use Rattle.s2_mode.specs.Shape.{information_bits, check_count, code_bits}
use Rattle.s2_rows.specs.Rows.{Rows}
use Rattle.s2_matrix.specs.Code.{code_of, ones_in}
use Rattle.s2_matrix.specs.Sums.{sum_of, information_sum, parity_bit}
use Rattle.s2_matrix.proofs.Parities.{before, check_sum, begun}

-- the places below n hold the sum of each bit and the one before it
pub record SummedTo (n : ℕ) (bits now : List Bool) : Type 0 where
  pub long : length now ≡ length bits
  pub first : bit_at now 0 ≡ bit_at bits 0
  pub others : (i : ℕ) → i + 1 < n → bit_at now (i + 1) ≡ xor (bit_at bits (i + 1)) (bit_at bits i)

pub summed_first : (bits old : List Bool) (v : Bool) → 1 ≤ length old → length bits ≡ length old → v ≡ bit_at bits 0 → SummedTo 1 bits (set old 0 v)
summed_first bits old v some same is = record {
  long = length-set old 0 v ∙ sym same;
  first = get_or-set_same old 0 v false some ∙ is;
  others = λ i h. absurd (omega (arith, h));
}

pub summed_next : (n : ℕ) (bits now : List Bool) (v : Bool) → 1 ≤ n → n < length bits → v ≡ xor (bit_at bits n) (bit_at bits (n - 1)) → SummedTo n bits now → SummedTo (n + 1) bits (set now n v)
summed_next n bits now v some low is so_far = record {
  long = length-set now n v ∙ so_far.long;
  first = (let apart : 0 ≢ n = λ e. omega (arith, e, some) in get_or-set_other now n 0 v false apart ∙ so_far.first);
  others = λ i h. elim (cases_eq (i + 1) n) [
    | inl same ↦ (
        let inside : n < length now = omega (arith, low, so_far.long) in
        let place : n - 1 ≡ i = omega (arith, same) in
        ap (bit_at (set now n v)) same ∙ get_or-set_same now n v false inside ∙ is ∙ ap₂ xor (ap (bit_at bits) (sym same)) (ap (bit_at bits) place)
        )
    | inr other ↦ (
        let less : i + 1 < n = omega (arith, h, other) in
        get_or-set_other now n (i + 1) v false other ∙ so_far.others i less
        )
  ];
}

-- two sums that follow one another differ by one check's
stepped : (p a x y : Bool) → xor (xor (xor p a) x) (xor p y) ≡ xor a (xor x y)
stepped true true true true = refl
stepped true true true false = refl
stepped true true false true = refl
stepped true true false false = refl
stepped true false true true = refl
stepped true false true false = refl
stepped true false false true = refl
stepped true false false false = refl
stepped false a x y = xor_assoc a x y

is_one : (n : ℕ) (b : Bool) → n ≡ number b → (n == 1) ≡ b
is_one n true e = eq-eqb n 1 e
is_one n false e = ne_eqb n 1 (λ same. omega (arith, e, same))

-- where the parity bits differ from those that are asked for, each and the one before
pub odd_by_neighbours : (r : Rows) (k : ℕ) (word info parities apart odd : List Bool)
    → k ≡ information_bits r.shape
    → length word ≡ code_bits r.shape
    → info ≡ take k word
    → parities ≡ drop k word
    → ((j : ℕ) → j < check_count r.shape → bit_at apart j ≡ xor (parity_bit (code_of r) info j) (bit_at parities j))
    → bit_at odd 0 ≡ bit_at apart 0
    → ((j : ℕ) → j + 1 < check_count r.shape → bit_at odd (j + 1) ≡ xor (bit_at apart (j + 1)) (bit_at apart j))
    → (j : ℕ) → j < check_count r.shape → bit_at odd j ≡ (ones_in (code_of r) word j % 2 == 1)
odd_by_neighbours r k word info parities apart odd ek size ei ep differ first others = each
  where
    long : length info ≡ information_bits r.shape
    long = ap length ei ∙ length-take-le k word (omega (arith, ek, size)) ∙ ek

    begins : (i : ℕ) → i < length info → bit_at word i ≡ bit_at info i
    begins i h = sym (ap (λ l. bit_at l i) ei ∙ get_or-take k word i false (omega (arith, h, long, ek)))

    at : (j : ℕ) → bit_at parities j ≡ bit_at word (information_bits r.shape + j)
    at j = ap (λ l. bit_at l j) ep ∙ get_or-drop k word j false ∙ ap (λ n. bit_at word (n + j)) ek

    is : (j : ℕ) → j < check_count r.shape → (ones_in (code_of r) word j % 2 == 1) ≡ xor (information_sum (code_of r) info j) (xor (bit_at word (information_bits r.shape + j)) (before (λ i. bit_at word (information_bits r.shape + i)) j))
    is j low =
        let w = λ (i : ℕ). bit_at word (information_bits r.shape + i) in
        let rest = xor (w j) (before w j) in
        is_one (ones_in (code_of r) word j % 2) (xor (information_sum (code_of r) info j) rest) (check_sum r word j low ∙ ap number (ap (λ s. xor s rest) (begun r info word j long begins)))

    each : (j : ℕ) → j < check_count r.shape → bit_at odd j ≡ (ones_in (code_of r) word j % 2 == 1)
    each zero low =
        let a = information_sum (code_of r) info 0 in
        let none = sym (xor_none (bit_at word (information_bits r.shape + 0))) in
        first ∙ differ 0 low ∙ ap (xor a) (at 0 ∙ none) ∙ sym (is 0 low)
    each (suc i) low =
        let a = information_sum (code_of r) info in
        let p = sum_of a (suc i) in
        let w = λ (n : ℕ). bit_at word (information_bits r.shape + n) in
        let next : i + 1 ≡ suc i = omega arith in
        let more : i + 1 < check_count r.shape = omega (arith, low) in
        let less : i < check_count r.shape = omega (arith, low) in
        let here : bit_at apart (i + 1) ≡ xor (xor p (a (suc i))) (w (suc i)) = ap (bit_at apart) next ∙ differ (suc i) low ∙ ap (xor (xor p (a (suc i)))) (at (suc i)) in
        let last : bit_at apart i ≡ xor p (w i) = differ i less ∙ ap (xor p) (at i) in
        ap (bit_at odd) (sym next) ∙ others i more ∙ ap₂ xor here last ∙ stepped p (a (suc i)) (w (suc i)) (w i) ∙ sym (is (suc i) low)
