-- How modes are named: by a constellation and a code rate, as in table 12 of EN 302 307-1 (EN 302 307-1, table 12).
use Rattle.std.specs.Prelude.{◌≡◌, ℕ, ◌⊎◌, false, List, ◌++◌, codes, if◌then◌else◌}
use Rattle.s2_mode.specs.declared.modcods.Modulation.{Modulation}
use Rattle.s2_mode.specs.declared.modcods.Modulation.TheVariants as modulations
use Rattle.s2_mode.specs.Table.{code_rate_text}
use Rattle.s2_mode.specs.Mode.{Mode, IsMode, mode_of, modulation_of, rate_of}
use Rattle.s2_names.specs.declared.names.Case.{Case}
use Rattle.s2_names.specs.declared.names.Case.TheVariants as cases

-- a constellation in small letters or in capitals
abbrev pub constellation_text : Modulation → Case → List ℕ
constellation_text modulations.Qpsk cases.Small = codes "qpsk"
constellation_text modulations.Psk8 cases.Small = codes "8psk"
constellation_text modulations.Qpsk cases.Capital = codes "QPSK"
constellation_text modulations.Psk8 cases.Capital = codes "8PSK"

-- a constellation, then the code rate
abbrev pub name_of : Mode → Case → List ℕ
name_of m letters = constellation_text (modulation_of m) letters ++ code_rate_text (rate_of m)

-- the code of a mode in words, as QPSK 3/4, normal
abbrev pub mode_words : Mode → List ℕ
mode_words m =
    constellation_text (modulation_of m) cases.Capital ++ (codes " " ++ (code_rate_text (rate_of m) ++ (if m.short then codes ", short" else codes ", normal")))

-- the text is a mode's name in small letters or in capitals: `qpsk3/4`, `QPSK3/4`
abbrev pub IsNameOf : Mode → List ℕ → Type 0
IsNameOf m text = (text ≡ name_of m cases.Small) ⊎ (text ≡ name_of m cases.Capital)

-- the text is the name of some mode
abbrev pub IsName : List ℕ → Type 0
IsName text = (modcod : ℕ) × IsMode (mode_of modcod false false) × IsNameOf (mode_of modcod false false) text

-- of two modes that a text names the MODCOD is one
abbrev pub NamesLaw : Type 0
NamesLaw = (m other : Mode) → IsMode m → IsMode other → (text : List ℕ) → IsNameOf m text → IsNameOf other text → m.modcod ≡ other.modcod
