-- Headers and decisions in numbers, whose lowest digit is the last symbol's, and places counted by blocks (own).
use Rattle.std.specs.Prelude.{ℕ, zero, suc, ◌+◌, ◌-◌, ◌*◌, ◌/◌, ◌%◌, ◌^◌, ◌≡◌, ◌<◌, ◌≤◌, ◌==◌, ◌&&◌, ◌||◌, min, Bool, true, false, List, map, nat_lt, nat_le, if◌then◌else◌}
use Rattle.std.specs.List.{range_with_len}
use Rattle.std.specs.Int.{bit_at as digit}
use Rattle.std.specs.Int.RustNames.{count_ones, bit_xor}
use Rattle.s2_mode.specs.Limits.{header_symbols}
use Rattle.s2_mode.specs.Mode.{Mode}
use Rattle.s2_bits.specs.Bits.{number}
use Rattle.s2_plframe.specs.Constants.{header_threshold, pilot_spacing, pilot_block, pilot_period}
use Rattle.s2_plframe.specs.Header.{header_bit, dummy_mode}
use Rattle.s2_plframe.specs.Search.{Decision, decided}
use Rattle.s2_plframe.specs.Turns.{Sides, turned_window}
use Rattle.s2_plframe.specs.declared.receive.found.Found.{Found}
use Rattle.s2_plframe.specs.declared.receive.found.Found.TheVariants as founds

-- the place of symbol s with n pilot blocks among the slots
abbrev pub place_behind : ℕ → ℕ → ℕ
place_behind blocks s = if nat_lt s (pilot_spacing * blocks) then pilot_period * (s / pilot_spacing) + s % pilot_spacing else s + pilot_block * blocks

-- the decision on the symbol j before the last one
abbrev pub held : ℕ → ℕ → ℕ → Decision
held odd even j = record { odd = digit odd j == 1; even = digit even j == 1 }

-- the last decisions that two numbers hold; the latest is the last
abbrev pub held_list : ℕ → ℕ → ℕ → List Decision
held_list odd even count = map (λ k. held odd even (count - 1 - k)) (range_with_len 0 count)

-- a header as a number, the first bit the highest
pub record IsHeader (header : ℕ → Bool) (value : ℕ) : Type 0 where
  pub small : value < 2 ^ header_symbols
  pub bits : (k : ℕ) → k < header_symbols → digit value (header_symbols - 1 - k) ≡ number (header k)

-- the decided bits of a window as a number, the first bit the highest
pub record IsWindow (window : List Decision) (value : ℕ) : Type 0 where
  pub small : value < 2 ^ header_symbols
  pub bits : (k : ℕ) → k < header_symbols → digit value (header_symbols - 1 - k) ≡ number (decided window k)

-- the same tests on numbers
abbrev pub is_near : ℕ → ℕ → Bool
is_near header window = nat_le (count_ones (bit_xor header window)) header_threshold

abbrev pub is_dummy : ℕ → ℕ → ℕ → ℕ → ℕ → Bool
is_dummy dummy dummy_pilots dummy_short dummy_both window =
    is_near dummy window || (is_near dummy_pilots window || (is_near dummy_short window || is_near dummy_both window))

abbrev pub found_by : ℕ → ℕ → ℕ → ℕ → ℕ → ℕ → Found
found_by coded dummy dummy_pilots dummy_short dummy_both window =
    if is_near coded window then founds.Coded else (if is_dummy dummy dummy_pilots dummy_short dummy_both window then founds.Dummy else founds.Nothing)

-- the decisions on the symbol j before the last one, straight and opposite
abbrev pub held_sides : ℕ → ℕ → ℕ → ℕ → ℕ → Sides
held_sides odd even odd_opposite even_opposite j = record { straight = held odd even j; opposite = held odd_opposite even_opposite j }

-- the last decisions that four numbers hold; the latest is the last
abbrev pub sides_list : ℕ → ℕ → ℕ → ℕ → ℕ → List Sides
sides_list odd even odd_opposite even_opposite count = map (λ k. held_sides odd even odd_opposite even_opposite (count - 1 - k)) (range_with_len 0 count)

-- how many bits of a window differ from a header, as numbers
abbrev pub wrong_in : ℕ → ℕ → ℕ
wrong_in header window = count_ones (bit_xor header window)

abbrev pub wrong_in_dummy : ℕ → ℕ → ℕ → ℕ → ℕ → ℕ
wrong_in_dummy dummy dummy_pilots dummy_short dummy_both window =
    min (min (wrong_in dummy window) (wrong_in dummy_pilots window)) (min (wrong_in dummy_short window) (wrong_in dummy_both window))

-- four windows, one for each rotation
abbrev pub in_turn : ℕ → ℕ → ℕ → ℕ → ℕ → ℕ
in_turn w_0 w_1 w_2 w_3 zero = w_0
in_turn w_0 w_1 w_2 w_3 (suc zero) = w_1
in_turn w_0 w_1 w_2 w_3 (suc (suc zero)) = w_2
in_turn w_0 w_1 w_2 w_3 _ = w_3

-- the windows of the four rotations as numbers
pub record AreWindows (seen : List Sides) (w_0 w_1 w_2 w_3 : ℕ) : Type 0 where
  pub first : IsWindow (turned_window 0 seen) w_0
  pub second : IsWindow (turned_window 1 seen) w_1
  pub third : IsWindow (turned_window 2 seen) w_2
  pub fourth : IsWindow (turned_window 3 seen) w_3

-- The lowest 64 bits of two headers of dummy frames are the complement of those of the other two, and this is how many
-- there are; or it is 0
abbrev pub AreApart : (dummy dummy_pilots dummy_short dummy_both opposite apart : ℕ) → Type 0
AreApart dummy dummy_pilots dummy_short dummy_both opposite apart =
    0 < apart → (opposite ≡ bit_xor dummy dummy_short % 2 ^ 64) × (opposite ≡ bit_xor dummy_pilots dummy_both % 2 ^ 64) × (apart ≡ count_ones opposite)

-- a window is far from a header, and so is its complement
abbrev pub is_between : ℕ → ℕ → Bool
is_between apart wrong = nat_lt header_threshold wrong && nat_lt (wrong + header_threshold) apart

-- so it is of each header
abbrev pub is_far : (apart coded dummy dummy_pilots window : ℕ) → Bool
is_far apart coded dummy dummy_pilots window =
    is_between apart (wrong_in coded window) && (is_between apart (wrong_in dummy window) && is_between apart (wrong_in dummy_pilots window))

-- a window is near no header
abbrev pub IsFar : (coded dummy dummy_pilots dummy_short dummy_both window : ℕ) → Type 0
IsFar coded dummy dummy_pilots dummy_short dummy_both window =
    (header_threshold < wrong_in coded window) × (header_threshold < wrong_in_dummy dummy dummy_pilots dummy_short dummy_both window)

-- the headers that a search looks for, as numbers
pub record AreHeaders (m : Mode) (coded dummy dummy_pilots dummy_short dummy_both : ℕ) : Type 0 where
  pub coded_is : IsHeader (header_bit m) coded
  pub dummy_is : IsHeader (header_bit (dummy_mode false false)) dummy
  pub dummy_pilots_is : IsHeader (header_bit (dummy_mode false true)) dummy_pilots
  pub dummy_short_is : IsHeader (header_bit (dummy_mode true false)) dummy_short
  pub dummy_both_is : IsHeader (header_bit (dummy_mode true true)) dummy_both

-- the invariant of a search's fields
pub record IsSearch (m : Mode) (turns : Bool) (coded dummy dummy_pilots dummy_short dummy_both opposite apart odd_opposite even_opposite count : ℕ) : Type 0 where
  pub headers : AreHeaders m coded dummy dummy_pilots dummy_short dummy_both
  pub far : AreApart dummy dummy_pilots dummy_short dummy_both opposite apart
  pub few : count ≤ header_symbols
  pub none : turns ≡ false → (odd_opposite ≡ 0) × (even_opposite ≡ 0)
