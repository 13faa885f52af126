-- The header test and the search for frames (own): the decided bits of a header's symbols, and how many are wrong.
use Rattle.std.specs.Prelude.{ℕ, zero, suc, ◌+◌, ◌%◌, ◌==◌, ◌||◌, ◌≤◌, min, Bool, true, false, List, length, slice_index_or, pos, ◌+ℤ◌, ◌-ℤ◌, int_lt, nat_lt, nat_le, if◌then◌else◌}
use Rattle.s2_mode.specs.declared.symbols.Symbol.{Symbol}
use Rattle.s2_mode.specs.Limits.{header_symbols}
use Rattle.s2_mode.specs.Mode.{Mode}
use Rattle.s2_bits.specs.Bits.{xor, number}
use Rattle.s2_plframe.specs.Header.{header_bit, dummy_mode}
use Rattle.s2_plframe.specs.Constants.{header_threshold, max_lock}
use Rattle.s2_plframe.specs.declared.receive.found.Found.{Found}
use Rattle.s2_plframe.specs.declared.receive.found.Found.TheVariants as founds

-- a symbol's bit at an odd and at an even place of a header
pub record Decision : Type 0 where
  pub odd : Bool
  pub even : Bool

-- the two decisions on a symbol: as the first, third and so on of a header, with a zero at (A, A); as one of the
-- others, with a zero at (-A, A)
abbrev pub decision : Symbol → Decision
decision s = record { odd = int_lt (s.i +ℤ s.q) (pos 0); even = int_lt (s.q -ℤ s.i) (pos 0) }

abbrev pub decision_at : List Decision → ℕ → Decision
decision_at seen k = slice_index_or seen k (record { odd = false; even = false })

-- the bit at place k, from 0
abbrev pub decided : List Decision → ℕ → Bool
decided window k = if k % 2 == 0 then (decision_at window k).odd else (decision_at window k).even

-- how many of the first n bits differ
unfoldable pub mismatches : (ℕ → Bool) → List Decision → ℕ → ℕ
mismatches header window zero = 0
mismatches header window (suc n) = mismatches header window n + number (xor (decided window n) (header n))

-- at most 12 of the 90 bits of a header differ
abbrev pub matches_header : (ℕ → Bool) → List Decision → Bool
matches_header header window = nat_le (mismatches header window header_symbols) header_threshold

-- the same for the four headers of dummy frames: MODCOD 0 with each TYPE
abbrev pub matches_dummy : List Decision → Bool
matches_dummy window =
    matches_header (header_bit (dummy_mode false false)) window || (matches_header (header_bit (dummy_mode false true)) window || (matches_header (header_bit (dummy_mode true false)) window || matches_header (header_bit (dummy_mode true true)) window))

-- what the last 90 symbols are: Coded if they pass the mode's header, else Dummy if they pass as a dummy header, else
-- Nothing; Nothing for fewer symbols
abbrev pub found : Mode → List Decision → Found
found m window =
    if nat_lt (length window) header_symbols
    then founds.Nothing
    else (if matches_header (header_bit m) window then founds.Coded else (if matches_dummy window then founds.Dummy else founds.Nothing))

-- how many bits of a window differ from a header
abbrev pub wrong_bits : (ℕ → Bool) → List Decision → ℕ
wrong_bits header window = mismatches header window header_symbols

-- the same for the nearest of the four dummy headers
abbrev pub wrong_bits_dummy : List Decision → ℕ
wrong_bits_dummy window =
    min (min (wrong_bits (header_bit (dummy_mode false false)) window) (wrong_bits (header_bit (dummy_mode false true)) window))
    (min (wrong_bits (header_bit (dummy_mode true false)) window) (wrong_bits (header_bit (dummy_mode true true)) window))

-- What 90 symbols right after a frame are. The nearest header passes, if its wrong bits are at most the lock's number;
-- on a tie the mode's wins
abbrev pub found_behind : Mode → ℕ → List Decision → Found
found_behind m lock window =
    if nat_le (wrong_bits (header_bit m) window) (wrong_bits_dummy window)
    then (if nat_le (wrong_bits (header_bit m) window) lock then founds.Coded else founds.Nothing)
    else (if nat_le (wrong_bits_dummy window) lock then founds.Dummy else founds.Nothing)

-- the number of wrong bits that a header may have right after a frame: 12 to 40
abbrev pub IsHeaderTolerance : ℕ → Type 0
IsHeaderTolerance lock = (header_threshold ≤ lock) × (lock ≤ max_lock)
