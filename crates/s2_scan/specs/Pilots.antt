-- The scrambling number of a recording, by its pilots (EN 302 307-1, 5.5.3 and 5.5.4): a pilot is sent as (A, A), and then
-- rotated by the quarter turns of the scrambling number.
use Rattle.std.specs.Prelude.{◌≡◌, ℕ, ◌+◌, ◌*◌, ◌/◌, ◌%◌, ◌<◌, ◌≤◌, ◌&&◌, Bool, nat_lt, nat_le, List, [], ◌∷◌, map, take, length, get_or, Option, None, Some, if◌then◌else◌}
use Rattle.std.specs.List.{filter, range_with_len}
use Rattle.s2_scramble.specs.Gold.{quarter_turns}
use Rattle.s2_scan.specs.Forms.{is_little, symbol_in}
use Rattle.s2_scan.specs.Lines.{has_pilots, is_conjugate}
use Rattle.s2_scan.specs.Candidates.{is_of}
use Rattle.s2_scan.specs.Sums.{energy, no_sum, conjugated_if, sum_below, turned_back}
use Rattle.s2_scan.specs.declared.passes.Pass.{Pass}
use Rattle.s2_scan.specs.declared.candidate.Candidate.{Candidate}
use Rattle.s2_scan.specs.declared.sums.Sum.{Sum}

-- ---- pilots

-- the bytes at the beginning of a recording that are kept for this: those of 2^22 symbols
abbrev pub front_bytes : ℕ
front_bytes = 16777216

-- the first bytes of a recording
abbrev pub front_of : List ℕ → List ℕ
front_of bytes = take front_bytes bytes

-- the pilots of a frame that are used: those of its first two blocks
abbrev pub pilot_count : ℕ
pilot_count = 72

-- the most frames whose pilots are used
abbrev pub frame_count : ℕ
frame_count = 16

-- which symbol after the header pilot k is: a block of 36 comes after each 16 slots of 90 symbols
abbrev pub pilot_place : ℕ → ℕ
pilot_place k = 1440 + 1476 * (k / 36) + k % 36

-- symbol k of a recording in a form, conjugated if that undoes the form; nothing past the end
abbrev pub symbol_at : ℕ → List ℕ → ℕ → Sum
symbol_at form bytes k = if nat_lt k (length bytes / 4) then conjugated_if (is_conjugate form) (symbol_in (is_little form) bytes k) else no_sum

-- the position of a frame
abbrev pub position_at : List Pass → ℕ → ℕ
position_at frames j = (get_or frames j (record { position = 0; form = 0; header = 0; energy = 0 })).position

-- pilot k of frames, added up
unfoldable pub pilot_sum : ℕ → List ℕ → List Pass → ℕ → Sum
pilot_sum form bytes frames k = sum_below (λ j. symbol_at form bytes (position_at frames j + (90 + pilot_place k))) (length frames)

-- all pilots of frames, each added up
unfoldable pub pilot_sums : ℕ → List ℕ → List Pass → List Sum
pilot_sums form bytes frames = map (pilot_sum form bytes frames) (range_with_len 0 pilot_count)

-- ---- numbers

-- pilots rotated back by the quarter turns of a scrambling number, and added up
unfoldable pub descrambled : List Sum → ℕ → Sum
descrambled pilots number = sum_below (λ k. turned_back (quarter_turns number (pilot_place k)) (get_or pilots k no_sum)) pilot_count

-- the energy of that sum
unfoldable pub energy_under : List Sum → ℕ → ℕ
energy_under pilots number = energy (descrambled pilots number)

-- how many scrambling numbers there are
abbrev pub numbers : ℕ
numbers = 262142

-- the best of the scrambling numbers below n: none has more energy, and of equal ones it is the least
pub record IsBest (pilots : List Sum) (n number : ℕ) : Type 0 where
  pub there : number < n
  pub most : (other : ℕ) → other < n → energy_under pilots other ≤ energy_under pilots number
  pub least : (other : ℕ) → other < number → energy_under pilots other < energy_under pilots number

-- ---- a recording

-- the frames whose pilots are used: the first ones of a candidate
abbrev pub frames_of : Candidate → List Pass → List Pass
frames_of s passes = take frame_count (filter (is_of s.form s.header) passes)

-- this is the scrambling number by the pilots of a candidate; none, if those of its first frame are not kept
abbrev pub IsNumberBy : List ℕ → List Pass → Candidate → Option ℕ → Type 0
IsNumberBy bytes passes s None = length bytes / 4 < s.first + 3042
IsNumberBy bytes passes s (Some number) = (s.first + 3042 ≤ length bytes / 4) × IsBest (pilot_sums s.form bytes (frames_of s passes)) numbers number

-- whether frames have pilots; dummy frames have none
abbrev pub is_piloted : ℕ → Bool
is_piloted header = nat_le 4 header && has_pilots header

-- the candidates of frames with pilots
abbrev pub piloted : List Candidate → List Candidate
piloted = filter (λ s. is_piloted s.header)

-- this is the scrambling number by the first of these; none, if there is none
abbrev pub IsNumberOf : List ℕ → List Pass → List Candidate → Option ℕ → Type 0
IsNumberOf bytes passes [] found = found ≡ None
IsNumberOf bytes passes (s ∷ ss) found = IsNumberBy bytes passes s found

-- this is the scrambling number by the likeliest frames with pilots
abbrev pub IsNumber : List ℕ → List Pass → List Candidate → Option ℕ → Type 0
IsNumber bytes passes candidates = IsNumberOf bytes passes (piloted candidates)
