-- Soft values (own) of received symbols whose scrambling is undone.
use Rattle.std.specs.Prelude.{ℕ, ◌/◌, ◌%◌, ◌^◌, Bool, true, false, not, List, [], ◌∷◌, ℤ, pos, neg_ℤ, ◌+ℤ◌, ◌-ℤ◌, ◌*ℤ◌, ◌≤ℤ◌, map, slice_index_or, if◌then◌else◌}
use Rattle.std.specs.List.{range_with_len}
use Rattle.std.specs.Int.{int_min, int_max}
use Rattle.std.specs.Int.RustNames.{int_div}
use Rattle.s2_mode.specs.declared.symbols.Symbol.{Symbol}
use Rattle.s2_mode.specs.Symbols.{symbol_at}
use Rattle.s2_mode.specs.Mode.{Mode, n_of, width_of}
use Rattle.s2_bits.specs.Bits.{bit_of_number}
use Rattle.s2_map.specs.Mapping.{point_of, sent_as}
use Rattle.s2_mode.specs.Limits.{max_soft}

-- the squared distance of two points
abbrev pub squared_distance : Symbol → Symbol → ℤ
squared_distance s p = (s.i -ℤ p.i) *ℤ (s.i -ℤ p.i) +ℤ (s.q -ℤ p.q) *ℤ (s.q -ℤ p.q)

-- the least of some numbers
abbrev pub least : List ℤ → ℤ
least [] = pos 0
least (x ∷ []) = x
least (x ∷ y ∷ xs) = int_min x (least (y ∷ xs))

-- the labels of n bits whose bit j, the first the highest, is b
abbrev pub with_bit : ℕ → ℕ → Bool → List ℕ → List ℕ
with_bit width j b [] = []
with_bit width j b (l ∷ ls) =
    if (if b then bit_of_number width l j else not (bit_of_number width l j)) then l ∷ with_bit width j b ls else with_bit width j b ls

-- the least squared distance of a symbol to a point whose label has b at place j, the first bit the highest
abbrev pub least_distance : Mode → Symbol → ℕ → Bool → ℤ
least_distance m s j b =
    least (map (λ l. squared_distance s (point_of m l)) (with_bit (width_of m) j b (range_with_len 0 (2 ^ width_of m))))

-- divided toward zero by a divisor, and limited to -511 .. 511
abbrev pub quantized : ℕ → ℤ → ℤ
quantized divisor d = int_max (neg_ℤ (pos max_soft)) (int_min (pos max_soft) (int_div d (pos divisor)))

-- the soft value of bit j of a symbol's label: the least squared distance with 1 there less that with 0, quantized;
-- positive if 0 is nearer
abbrev pub soft_value : ℕ → Mode → Symbol → ℕ → ℤ
soft_value divisor m s j = quantized divisor (least_distance m s j true -ℤ least_distance m s j false)

-- the soft value of codeword bit b
abbrev pub soft_bit : ℕ → Mode → List Symbol → ℕ → ℤ
soft_bit divisor m payload b = soft_value divisor m (symbol_at payload (sent_as m b / width_of m)) (sent_as m b % width_of m)

-- the soft values of a payload, in the order of the codeword
abbrev pub soft_values : ℕ → Mode → List Symbol → List ℤ
soft_values divisor m payload = map (soft_bit divisor m payload) (range_with_len 0 (n_of m))

-- the soft value of bit k of a list
abbrev pub value_at : List ℤ → ℕ → ℤ
value_at values k = slice_index_or values k (pos 0)

-- a soft value of this profile
pub record InRange (v : ℤ) : Type 0 where
  pub low : neg_ℤ (pos max_soft) ≤ℤ v
  pub high : v ≤ℤ pos max_soft
