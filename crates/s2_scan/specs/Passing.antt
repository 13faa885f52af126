-- Which positions of a recording pass as a header (own).
use Rattle.std.specs.Prelude.{ℕ, ◌+◌, ◌-◌, ◌*◌, ◌/◌, ◌%◌, ◌==◌, false, List, [], ◌∷◌, length, map, take, drop, nat_le, Bool, if◌then◌else◌}
use Rattle.std.specs.List.{flat_map, range_with_len}
use Rattle.s2_mode.specs.Limits.{header_symbols}
use Rattle.s2_mode.specs.Mode.{Mode, mode_of}
use Rattle.s2_bits.specs.Bits.{number}
use Rattle.s2_plframe.specs.Header.{header_bit, dummy_mode}
use Rattle.s2_plframe.specs.Search.{Decision, decision, mismatches, matches_header}
use Rattle.s2_scan.specs.Forms.{forms, is_little, orientation_of, undo, symbol_in}
use Rattle.s2_scan.specs.Lines.{is_conjugate}
use Rattle.s2_scan.specs.Sums.{energy, conjugated_if, sum_below, turned_back}
use Rattle.s2_scan.specs.declared.passes.Pass.{Pass}
use Rattle.s2_scan.specs.declared.sums.Sum.{Sum}

-- ---- the headers

-- the code of a header: MODCOD is its number div 4; bit 1 is TYPE's upper bit, bit 0 its lower bit
abbrev pub code_at : ℕ → Mode
code_at header = mode_of (header / 4) (header / 2 % 2 == 1) (header % 2 == 1)

-- how many headers there are
abbrev pub header_count : ℕ
header_count = 116

-- all headers: MODCOD 0, a dummy frame's, to 28, each with the four TYPEs
unfoldable pub headers : List ℕ
headers = range_with_len 0 header_count

-- ---- one position

-- the bytes of the 90 symbols from a position on
abbrev pub window_at : ℕ → List ℕ → List ℕ
window_at position bytes = take 360 (drop (4 * position) bytes)

-- the decisions on the 90 symbols of a window, with their form undone
unfoldable pub seen_as : ℕ → List ℕ → List Decision
seen_as form window = map (λ k. undo (orientation_of form) (decision (symbol_in (is_little form) window k))) (range_with_len 0 header_symbols)

-- the largest number of wrong bits of the start of frame
abbrev pub sof_threshold : ℕ
sof_threshold = 4

-- at most 4 of the 26 bits of the start of frame differ; all headers begin with these
abbrev pub matches_sof : List Decision → Bool
matches_sof seen = nat_le (mismatches (header_bit (dummy_mode false false)) seen 26) sof_threshold

-- by how many quarter turns symbol k of a header is rotated from (A, A): (-A, A) is one turn, and a one bit two more
abbrev pub header_quarters : Mode → ℕ → ℕ
header_quarters m k = k % 2 + 2 * number (header_bit m k)

-- the symbols of a window rotated back by those of a header, and added up: noise adds up to little, and the header to 90 times
-- its amplitude
unfoldable pub header_sum : ℕ → ℕ → List ℕ → Sum
header_sum form header window =
    sum_below (λ k. turned_back (header_quarters (code_at header) k) (conjugated_if (is_conjugate form) (symbol_in (is_little form) window k))) header_symbols

-- the pass of a window as a header in a form
abbrev pub pass_as : ℕ → List ℕ → ℕ → ℕ → Pass
pass_as position window form header =
    record { position = position; form = form; header = header; energy = energy (header_sum form header window) / header_symbols }

-- a pass, if at most 12 of all 90 bits differ from the header
abbrev pub passes_as : ℕ → List ℕ → ℕ → ℕ → List Pass
passes_as position window form header =
    if matches_header (header_bit (code_at header)) (seen_as form window) then pass_as position window form header ∷ [] else []

-- the passes of a window in a form: none, if the start of frame does not match
unfoldable pub passes_in_form : ℕ → List ℕ → ℕ → List Pass
passes_in_form position window form = if matches_sof (seen_as form window) then flat_map (passes_as position window form) headers else []

-- the passes of a window in all forms
unfoldable pub passes_at : ℕ → List ℕ → List Pass
passes_at position window = flat_map (passes_in_form position window) forms

-- ---- all positions

-- the passes of the first n positions of bytes, which begin at this position of the recording
unfoldable pub passes_below : ℕ → List ℕ → ℕ → List Pass
passes_below first bytes n = flat_map (λ p. passes_at (first + p) (window_at p bytes)) (range_with_len 0 n)

-- the number of positions: those from which on 90 symbols are there
abbrev pub positions_in : List ℕ → ℕ
positions_in bytes = length bytes / 4 - 89

-- the passes of a recording, by position, form and header
abbrev pub all_passes : List ℕ → List Pass
all_passes bytes = passes_below 0 bytes (positions_in bytes)
