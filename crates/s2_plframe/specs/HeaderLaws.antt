-- Laws of frames, of the header test and of the search (EN 302 307-1, 5.5).
use Rattle.std.specs.Prelude.{drop, length, Bool, ◌+◌, ◌-◌, ◌*◌, ◌≡◌, ◌<◌, ◌≤◌, ℕ, zero, suc, true, false, List, [], ◌∷◌, ◌++◌, map, take}
use Rattle.s2_mode.specs.declared.symbols.Symbol.{Symbol}
use Rattle.s2_mode.specs.Limits.{header_symbols}
use Rattle.s2_mode.specs.Mode.{Mode, IsMode, slots_of}
use Rattle.s2_bits.specs.Bits.{xor, number}
use Rattle.s2_plframe.specs.Header.{header_bit, header_of, dummy_mode}
use Rattle.s2_plframe.specs.Constants.{header_threshold}
use Rattle.s2_plframe.specs.Frame.{frame_symbols}
use Rattle.s2_plframe.specs.Payload.{received_payload, AllRotateBack}
use Rattle.s2_plframe.specs.Search.{Decision, decision, matches_header, matches_dummy, found, found_behind}
use Rattle.s2_plframe.specs.Turns.{Sides, sides, side_at, turned_back, sought_of, found_in, behind_in, turn_of, derotated, recent}
use Rattle.s2_scramble.specs.Rotations.{rotated}
use Rattle.s2_plframe.specs.declared.receive.found.Found.TheVariants as founds

-- a frame begins with its mode's header, and its payload can be taken out again
pub record HoldsFrame (m : Mode) (number : ℕ) (payload frame : List Symbol) : Type 0 where
  pub header : take header_symbols frame ≡ header_of m
  pub payload_again : received_payload m number frame ≡ payload

-- a frame begins with its mode's header, and gives its payload back if no component is -32768
abbrev pub TakenOutLaw : Type 0
TakenOutLaw = (m : Mode) (number : ℕ) (payload : List Symbol) → IsMode m → length payload ≡ 90 * slots_of m → AllRotateBack payload
    → HoldsFrame m number payload (frame_symbols m number payload)

-- the decisions on the last 90 symbols
abbrev pub seen_of : Bool → List Symbol → List Sides
seen_of turns symbols = recent (map (sides turns) symbols)

-- a search that took some symbols and then one more has seen the decisions on the last 90
abbrev pub SeenLaw : Type 0
SeenLaw = (turns : Bool) (symbols : List Symbol) (next : Symbol) → recent (seen_of turns symbols ++ sides turns next ∷ []) ≡ seen_of turns (symbols ++ next ∷ [])

-- the decisions on the last 90 are those of the last 90 symbols
abbrev pub LastLaw : Type 0
LastLaw = (turns : Bool) (symbols : List Symbol) → seen_of turns symbols ≡ map (sides turns) (drop (length symbols - header_symbols) symbols)

-- the header of a frame is found
abbrev pub CleanHeaderLaw : Type 0
CleanHeaderLaw = (m : Mode) (number : ℕ) (payload : List Symbol) → IsMode m → found m (map decision (take header_symbols (frame_symbols m number payload))) ≡ founds.Coded

-- that of a dummy frame is found as such, with each TYPE
abbrev pub DummyHeaderLaw : Type 0
DummyHeaderLaw = (m : Mode) (short pilots : Bool) → IsMode m → found m (map decision (header_of (dummy_mode short pilots))) ≡ founds.Dummy

-- how many of the first n bits of two headers differ
unfoldable pub differences : (ℕ → Bool) → (ℕ → Bool) → ℕ → ℕ
differences a b zero = 0
differences a b (suc n) = differences a b n + number (xor (a n) (b n))

-- the header of a mode differs from that of a dummy frame, with each TYPE, in at least 32 bits
abbrev pub DummiesApartLaw : Type 0
DummiesApartLaw = (m : Mode) (short pilots : Bool) → IsMode m → 32 ≤ differences (header_bit m) (header_bit (dummy_mode short pilots)) header_symbols

-- with a lock of 12 the test right after a frame is the usual test
abbrev pub BehindLaw : Type 0
BehindLaw = (m : Mode) (window : List Decision) → IsMode m → length window ≡ header_symbols → found_behind m header_threshold window ≡ found m window

-- a header that passes the usual test passes right after a frame too
abbrev pub StillFoundLaw : Type 0
StillFoundLaw = (m : Mode) (lock : ℕ) (window : List Decision) → IsMode m → header_threshold ≤ lock → length window ≡ header_symbols
    → (found m window ≡ founds.Coded → found_behind m lock window ≡ founds.Coded) × (found m window ≡ founds.Dummy → found_behind m lock window ≡ founds.Dummy)

-- no window passes as a header of a mode and as one of a dummy frame
abbrev pub ApartLaw : Type 0
ApartLaw = (m : Mode) (window : List Decision) → IsMode m → matches_header (header_bit m) window ≡ true → matches_dummy window ≡ false

-- ---- rotations

-- the decisions in each rotation are those on the symbol rotated back
abbrev pub RotationsLaw : Type 0
RotationsLaw = (t : ℕ) (s : Symbol) → t < 4 → side_at t (sides true s) ≡ decision (turned_back t s)

-- without the search in all rotations the tests are those of the headers as sent
abbrev pub StraightLaw : Type 0
StraightLaw = (m : Mode) (lock : ℕ) (symbols : List Symbol)
    → (found_in (sought_of m false) (map (sides false) symbols) ≡ found m (map decision symbols)) × (behind_in (sought_of m false) lock (map (sides false) symbols) ≡ found_behind m lock (map decision symbols))

-- a frame that arrived rotated by t quarters: its header is found, right after a frame and elsewhere; its rotation is t; and
-- rotated back it is the frame that was sent
pub record IsTurnedFrame (m : Mode) (t : ℕ) (sent came : List Symbol) : Type 0 where
  pub found_is : found_in (sought_of m true) (map (sides true) (take header_symbols came)) ≡ founds.Coded
  pub behind_is : (lock : ℕ) → behind_in (sought_of m true) lock (map (sides true) (take header_symbols came)) ≡ founds.Coded
  pub turn_is : turn_of m came ≡ t
  pub back : AllRotateBack sent → derotated m came ≡ sent

-- each frame without noise, rotated by 0 to 3 quarters, is such a frame
abbrev pub TurnedFrameLaw : Type 0
TurnedFrameLaw = (m : Mode) (number t : ℕ) (payload : List Symbol) → IsMode m → t < 4
    → IsTurnedFrame m t (frame_symbols m number payload) (map (rotated t) (frame_symbols m number payload))

-- a dummy header without noise, rotated by 0 to 3 quarters, is found as one, with each TYPE
abbrev pub TurnedDummyLaw : Type 0
TurnedDummyLaw = (m : Mode) (short pilots : Bool) (lock t : ℕ) → IsMode m → t < 4
    → (found_in (sought_of m true) (map (sides true) (map (rotated t) (header_of (dummy_mode short pilots)))) ≡ founds.Dummy)
    × (behind_in (sought_of m true) lock (map (sides true) (map (rotated t) (header_of (dummy_mode short pilots)))) ≡ founds.Dummy)
