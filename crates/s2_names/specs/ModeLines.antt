-- The line of each code (own).
use Rattle.std.specs.Prelude.{◌≡◌, ℕ, ◌+◌, ◌/◌, ◌%◌, nat_lt, Bool, true, false, List, [], ◌++◌, drop, codes, decimal, Option, Some, None, Result, Ok, if◌then◌else◌}
use Rattle.std.specs.List.{flat_map, filter, range_with_len, Contains}
use Rattle.s2_mode.specs.Limits.{max_modcod}
use Rattle.s2_mode.specs.Mode.{Mode, IsMode, mode_of, kbch_of, k_of, symbols_in}
use Rattle.s2_io.specs.declared.exit.Exit.{Exit}
use Rattle.s2_io.specs.declared.exit.Exit.TheVariants as exits
use Rattle.s2_io.specs.declared.fault.Fault.{Fault}
use Rattle.s2_names.specs.declared.names.Case.TheVariants as cases
use Rattle.s2_names.specs.Names.{name_of}
use Rattle.s2_names.specs.Rates.{symbol_millionths, stream_rate}
use Rattle.s2_names.specs.Ideal.{ideal_text}

-- a number of millionths, with six digits after the point
abbrev pub millionths_text : ℕ → List ℕ
millionths_text n = decimal (n / 1000000) ++ (codes "." ++ drop 1 (decimal (1000000 + n % 1000000)))

-- MODCOD, name, length, Kbch and k
unfoldable pub code_text : Mode → List ℕ
code_text m =
    codes "modcod " ++ decimal m.modcod ++ codes " " ++ name_of m cases.Small ++ (if m.short then codes " short" else codes " normal")
    ++ codes " kbch " ++ decimal (kbch_of m) ++ codes " k " ++ decimal (k_of m)

-- the symbols of frames without pilot blocks and with them, and the bits of the transport stream for each
unfoldable pub frames_text : Mode → Mode → List ℕ
frames_text plain piloted =
    codes " symbols " ++ decimal (symbols_in plain) ++ codes " " ++ decimal (symbols_in piloted)
    ++ codes " bits " ++ millionths_text (symbol_millionths plain) ++ codes " " ++ millionths_text (symbol_millionths piloted)

-- the bits of the transport stream per second, if a symbol rate is given
unfoldable pub rates_of : Option ℕ → Mode → Mode → List ℕ
rates_of None plain piloted = []
rates_of (Some rate) plain piloted = codes " ts " ++ decimal (stream_rate rate plain) ++ codes " " ++ decimal (stream_rate rate piloted)

-- the line of a code, by its modes without pilot blocks and with them
unfoldable pub line_text : Option ℕ → Mode → Mode → List ℕ
line_text rate plain piloted =
    code_text plain ++ (frames_text plain piloted ++ (codes " esn0 " ++ ideal_text plain ++ (rates_of rate plain piloted ++ codes "\n")))

-- the line of a MODCOD, for normal or short frames
abbrev pub line_of : Option ℕ → ℕ → Bool → List ℕ
line_of rate modcod short = line_text rate (mode_of modcod short false) (mode_of modcod short true)

-- whether there are frames of this length: then the table has a k for them
abbrev pub has_code : Bool → ℕ → Bool
has_code short modcod = nat_lt 0 (k_of (mode_of modcod short false))

-- the MODCODs that have frames of a length
unfoldable pub modcods_of : Bool → List ℕ
modcods_of short = filter (has_code short) (range_with_len 1 max_modcod)

-- each code is there
abbrev pub AllCodesLaw : Type 0
AllCodesLaw = (m : Mode) → IsMode m → Contains (modcods_of m.short) m.modcod

-- the lines of all codes of a length
unfoldable pub lines_of : Option ℕ → Bool → List ℕ → List ℕ
lines_of rate short codes = flat_map (λ modcod. line_of rate modcod short) codes

-- the lines of all codes: those of normal frames first, then those of short ones
unfoldable pub modes_text : Option ℕ → List ℕ
modes_text rate = lines_of rate false (modcods_of false) ++ lines_of rate true (modcods_of true)

-- the listed lines: those of all codes, or the line of one mode's code
abbrev pub listed_text : Option ℕ → Option Mode → List ℕ
listed_text rate None = modes_text rate
listed_text rate (Some m) = line_of rate m.modcod m.short

-- the request was accepted, with this symbol rate or none
abbrev pub IsAsked : Option ℕ → Result (Option ℕ) Fault → Type 0
IsAsked rate said = said ≡ Ok rate

-- `modes` prints this, of a mode or of all
abbrev pub IsListed : Option Mode → Option ℕ → Exit → List ℕ → Type 0
IsListed mode rate exit text = (exit ≡ exits.Fine) × (text ≡ listed_text rate mode)
