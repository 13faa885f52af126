-- How strong symbols are (own).
use Rattle.std.specs.Prelude.{ℕ, ◌+◌, ◌*◌, ◌/◌, ◌||◌, Bool, false, true, nat_le, max, unsigned_abs, List, ◌++◌, length, codes, decimal, if◌then◌else◌}
use Rattle.std.specs.List.{count_by, range_with_len, sum_by}
use Rattle.s2_scan.specs.Forms.{symbol_in}
use Rattle.s2_scan.specs.Sums.{energy, conjugated_if}

-- ---- the root of a mean

-- the largest amplitude, that of (-32768, -32768)
abbrev pub max_amplitude : ℕ
max_amplitude = 46341

-- whether a number and a half is at most the root of the mean
abbrev pub is_below_root : ℕ → ℕ → Bool
is_below_root mean k = nat_le ((2 * k + 1) * (2 * k + 1)) (4 * mean)

-- the root of a mean, rounded, at most the largest amplitude: as many numbers k have k + 1/2 at most the root
unfoldable pub root_of : ℕ → ℕ
root_of mean = count_by (is_below_root mean) (range_with_len 0 max_amplitude)

-- the root of the mean of I * I + Q * Q over symbols, rounded, by their energy
abbrev pub amplitude_by : ℕ → ℕ → ℕ
amplitude_by energy symbols = root_of (energy / symbols)

-- ---- all symbols, read in a byte order

-- the symbols of bytes
abbrev pub symbols_in : List ℕ → ℕ
symbols_in bytes = length bytes / 4

-- the energy of a symbol: I * I + Q * Q
unfoldable pub energy_at : Bool → List ℕ → ℕ → ℕ
energy_at little bytes k = energy (conjugated_if false (symbol_in little bytes k))

-- the root of the mean of I * I + Q * Q over all symbols, rounded; 0 if there is none
unfoldable pub rms_of : Bool → List ℕ → ℕ
rms_of little bytes = root_of (sum_by (energy_at little bytes) (range_with_len 0 (symbols_in bytes)) / max (symbols_in bytes) 1)

-- whether a component of a symbol is 32767, -32767 or -32768
unfoldable pub is_clipped : Bool → List ℕ → ℕ → Bool
is_clipped little bytes k = nat_le 32767 (unsigned_abs (symbol_in little bytes k).i) || nat_le 32767 (unsigned_abs (symbol_in little bytes k).q)

-- how many symbols have such a component
unfoldable pub clipped_in : Bool → List ℕ → ℕ
clipped_in little bytes = count_by (is_clipped little bytes) (range_with_len 0 (symbols_in bytes))

-- the line of how strong symbols are
unfoldable pub strength_line : Bool → List ℕ → List ℕ
strength_line little bytes =
    (codes "symbols " ++ decimal (symbols_in bytes))
    ++ ((codes " rms " ++ decimal (rms_of little bytes)) ++ ((codes " clipped " ++ decimal (clipped_in little bytes)) ++ (if little then codes " bytes little\n" else codes " bytes big\n")))

-- the text if no header is found: how strong the symbols are in both byte orders, and the tool that reads other forms
unfoldable pub nothing_text : List ℕ → List ℕ
nothing_text bytes = codes "nothing found\n" ++ (strength_line false bytes ++ (strength_line true bytes ++ codes "try tools/receive for floats and 8-bit samples\n"))
