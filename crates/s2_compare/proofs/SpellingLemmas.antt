-- Digits and bits, place by place.
use Rattle.std.proofs.Common.{◌≡◌, ◌≢◌, ℕ, ◌<◌, Bool, true, false, List, map, length, slice_index_or, refl, sym, ap, ◌∙◌, arith}
use Rattle.std.proofs.lemmas.List.{ext_get_or, get_or-map, length-map}
use Rattle.s2_bits.specs.Bits.{bit_at}
use Rattle.s2_compare.specs.Devices.{digit}

-- digits that are those of bits at each place
pub all_digits : (digits : List ℕ) (word : List Bool) → length word ≡ length digits → ((k : ℕ) → k < length digits → slice_index_or digits k 0 ≡ digit (bit_at word k)) → digits ≡ map digit word
all_digits digits word size each =
    ext_get_or 0 digits (map digit word) (sym size ∙ sym (length-map word digit)) (λ k low. each k low ∙ sym (get_or-map digit word k false 0 (omega (arith, low, size))))

one_of_two : (b : Bool) → digit b ≢ 48 → digit b ≢ 49 → ⊥
one_of_two true p q = q refl
one_of_two false p q = p refl

-- a byte that is neither digit is not among those of bits
pub no_digit : (digits : List ℕ) (bits : List Bool) (i : ℕ) → i < length digits → slice_index_or digits i 0 ≢ 48 → slice_index_or digits i 0 ≢ 49 → digits ≡ map digit bits → ⊥
no_digit digits bits i low p q same =
    let long : length digits ≡ length bits = ap length same ∙ length-map bits digit in
    let is : slice_index_or digits i 0 ≡ digit (bit_at bits i) = ap (λ (xs : List ℕ). slice_index_or xs i 0) same ∙ get_or-map digit bits i false 0 (omega (arith, low, long)) in
    one_of_two (bit_at bits i) (λ e. p (is ∙ e)) (λ e. q (is ∙ e))
