-- What the passes of a recording are evidence of: each header in each form that occurs at its frame's distance (own).
use Rattle.std.specs.Prelude.{ℕ, ◌+◌, ◌-◌, ◌*◌, ◌/◌, ◌%◌, ◌^◌, ◌==◌, ◌&&◌, ◌||◌, Bool, nat_lt, min, List, [], ◌∷◌, length, if◌then◌else◌}
use Rattle.std.specs.List.{flat_map, filter}
use Rattle.s2_mode.specs.Limits.{header_symbols, dummy_symbols}
use Rattle.s2_scan.specs.Forms.{forms}
use Rattle.s2_scan.specs.Passing.{headers}
use Rattle.s2_scan.specs.Strength.{amplitude_by}
use Rattle.s2_scan.specs.declared.passes.Pass.{Pass}
use Rattle.s2_scan.specs.declared.tally.Tally.{Tally}
use Rattle.s2_scan.specs.declared.candidate.Candidate.{Candidate}

-- ---- the frames (EN 302 307-1, 5.5)

-- the bits of a symbol: MODCOD 1 to 11 are QPSK, 12 to 17 8PSK, 18 to 23 16APSK, 24 to 28 32APSK
abbrev pub width_at : ℕ → ℕ
width_at modcod = if nat_lt modcod 12 then 2 else (if nat_lt modcod 18 then 3 else (if nat_lt modcod 24 then 4 else 5))

-- the slots of a frame
abbrev pub slots_at : ℕ → ℕ
slots_at header = (if header / 2 % 2 == 1 then 180 else 720) / width_at (header / 4)

-- the symbols of a frame: the header, slots of 90 and, after each 16 slots but the last ones, a pilot block of 36
abbrev pub frame_length : ℕ → ℕ
frame_length header =
    if header / 4 == 0
    then dummy_symbols
    else header_symbols + 90 * slots_at header + (if header % 2 == 1 then 36 * ((slots_at header - 1) / 16) else 0)

-- ---- distances

-- the distances of passes, each from the one before it; the first one's is from this position
abbrev pub distances_from : ℕ → List Pass → List ℕ
distances_from last [] = []
distances_from last (p ∷ passes) = (p.position - last) ∷ distances_from p.position passes

-- the distance of each pass to the next one
abbrev pub distances : List Pass → List ℕ
distances [] = []
distances (p ∷ passes) = distances_from p.position passes

-- how often a distance occurs
abbrev pub occurrences : ℕ → List ℕ → ℕ
occurrences distance [] = 0
occurrences distance (d ∷ ds) = (if d == distance then 1 else 0) + occurrences distance ds

-- one more, as far as 64 bits can count
abbrev pub counted_on : ℕ → ℕ
counted_on n = min (n + 1) (2 ^ 64 - 1)

-- a table of distances after one more distance; a new one is put at the end
abbrev pub tallied : ℕ → List Tally → List Tally
tallied distance [] = record { distance = distance; times = 1 } ∷ []
tallied distance (t ∷ table) =
    if t.distance == distance then record { distance = t.distance; times = counted_on t.times } ∷ table else t ∷ tallied distance table

-- a table after these distances
abbrev pub tally_of : List ℕ → List Tally → List Tally
tally_of [] table = table
tally_of (d ∷ ds) table = tally_of ds (tallied d table)

-- the most frequent distance of a table, and of equally frequent ones the first, or the best before it
abbrev pub most_frequent : List Tally → Tally → Tally
most_frequent [] best = best
most_frequent (t ∷ table) best = most_frequent table (if nat_lt best.times t.times then t else best)

-- no distance
abbrev pub no_tally : Tally
no_tally = record { distance = 0; times = 0 }

-- the most frequent distance, and of equally frequent ones the one that comes first
abbrev pub usual_distance : List ℕ → ℕ
usual_distance ds = (most_frequent (tally_of ds []) no_tally).distance

-- ---- amplitude

-- the energy of passes, without their noise
abbrev pub energy_in : List Pass → ℕ
energy_in [] = 0
energy_in (p ∷ passes) = p.energy + energy_in passes

-- the amplitude over the headers that passed, without their noise
abbrev pub amplitude_of : List Pass → ℕ
amplitude_of passes = amplitude_by (energy_in passes) (header_symbols * length passes)

-- ---- candidates

-- whether a pass is of this header in this form
abbrev pub is_of : ℕ → ℕ → Pass → Bool
is_of form header p = (p.form == form) && (p.header == header)

-- the position of the first pass
abbrev pub first_of : List Pass → ℕ
first_of [] = 0
first_of (p ∷ passes) = p.position

-- a header in a form, by its passes
abbrev pub candidate_by : ℕ → ℕ → List Pass → Candidate
candidate_by form header passes = record {
  form = form;
  header = header;
  seen = length passes;
  pairs = occurrences (frame_length header) (distances passes);
  first = first_of passes;
  every = usual_distance (distances passes);
  amplitude = amplitude_of passes;
}

-- a candidate, if two passes have the frame's distance
abbrev pub candidate_of : ℕ → ℕ → List Pass → List Candidate
candidate_of form header passes =
    if occurrences (frame_length header) (distances passes) == 0 then [] else candidate_by form header passes ∷ []

-- the candidate of a header in a form among all passes
unfoldable pub candidates_in : List Pass → ℕ → ℕ → List Candidate
candidates_in passes form header = candidate_of form header (filter (is_of form header) passes)

-- the candidates of all headers in a form
unfoldable pub candidates_as : List Pass → ℕ → List Candidate
candidates_as passes form = flat_map (candidates_in passes form) headers

-- all candidates, by form and header
unfoldable pub all_candidates : List Pass → List Candidate
all_candidates passes = flat_map (candidates_as passes) forms

-- ---- the likeliest first

-- a candidate is likelier than another if it has more pairs, or the same number and a smaller amplitude
abbrev pub is_likelier : Candidate → Candidate → Bool
is_likelier s t = nat_lt t.pairs s.pairs || ((s.pairs == t.pairs) && nat_lt s.amplitude t.amplitude)

-- a candidate put in front of the first one that it is likelier than
abbrev pub put_in : Candidate → List Candidate → List Candidate
put_in s [] = s ∷ []
put_in s (t ∷ ts) = if is_likelier s t then s ∷ t ∷ ts else t ∷ put_in s ts

-- candidates put in one after the other
abbrev pub put_all : List Candidate → List Candidate → List Candidate
put_all [] ranked = ranked
put_all (s ∷ ss) ranked = put_all ss (put_in s ranked)

-- the candidates of a recording's passes, the likeliest first
abbrev pub candidates_of : List Pass → List Candidate
candidates_of passes = put_all (all_candidates passes) []
