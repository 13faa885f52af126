-- Laws of a stream of symbols: of its first frames, and of two ways to read it (EN 302 307-1, 5.1 to 5.5).
use Rattle.std.specs.Prelude.{◌≡◌, ℕ, ◌+◌, ◌<◌, ◌≤◌, ◌⊎◌, IsTrue, Bool, true, false, List, [], ◌∷◌, ◌++◌, All, length, map, take, ⊤}
use Rattle.std.specs.Io.KnownBytes.{Appends}
use Rattle.s2_mode.specs.Limits.{header_symbols, dummy_symbols}
use Rattle.s2_mode.specs.Mode.{Mode, symbols_in}
use Rattle.s2_mode.specs.Streams.{Streams}
use Rattle.s2_mode.specs.declared.symbols.Symbol.{Symbol}
use Rattle.s2_plframe.specs.declared.receive.found.Found.{Found}
use Rattle.s2_plframe.specs.declared.receive.found.Found.TheVariants as founds
use Rattle.s2_matrix.specs.Code.{code_of}
use Rattle.s2_split.specs.Scattered.{IsScattered}
use Rattle.s2_bbframe.specs.DataStream.{IsPacket, stream_of, fields_of, field_bytes, header_at}
use Rattle.s2_bbframe.specs.Joining.{closed_in}
use Rattle.s2_receive.specs.Meeting.{Met}
use Rattle.s2_receive.specs.Receiving.{Rules, State, Processed, RunsTo, begun}
use Rattle.s2_receive.specs.Laws.{Piece, coded, dummy, IsDummy, SpellSymbols, joined, stream_symbols}
use Rattle.s2_check.specs.Verdicts.{is_certified}
use Rattle.s2_soft.specs.Divisors.{IsDivisor}
use Rattle.s2_tuning.specs.Tuning.{Tuning}
use Rattle.s2_link.specs.Limits.{max_roll_off}
use Rattle.s2_link.specs.Link.{Link}
use Rattle.s2_send.specs.Laws.{IsLinkOf}
use Rattle.s2_send.specs.Frames.{IsCodewordFor}
use Rattle.s2_receive.specs.Windows.{found_as}
use Rattle.s2_modem.specs.Reports.{frame_soft}
use Rattle.s2_scramble.specs.Rotations.{rotated}
use Rattle.s2_modem.specs.Reception.{link_rules, sought_by}
use Rattle.s2_modem.specs.Both.{AreBytes, FramePlace, sent_symbols, certified_lines}

-- the symbols of a whole frame of the link, with a header that passes there, right after a frame or not
abbrev pub IsWholeFrame : Link → Tuning → Bool → List Symbol → Type 0
IsWholeFrame link tuning behind symbols =
    (length symbols ≡ symbols_in link.setup.mode) × (found_as (sought_by link tuning) tuning.max_header_errors behind (take header_symbols symbols) ≡ founds.Coded)

-- a frame came without noise: as sent; or, if the tuning says so, rotated by 0 to 3 quarters
abbrev pub CameWithoutNoise : Link → Tuning → List Bool → List Symbol → Type 0
CameWithoutNoise link tuning codeword symbols =
    (symbols ≡ sent_symbols link codeword) ⊎ ((tuning.turns ≡ true) × ((t : ℕ) × (t < 4) × (symbols ≡ map (rotated t) (sent_symbols link codeword))))

-- a frame came clear: without noise; or whole, with a header that passes there and soft values that are scattered about the
-- codeword
abbrev pub IsClear : Link → Tuning → Bool → List Bool → List Symbol → Type 0
IsClear link tuning behind codeword symbols =
    CameWithoutNoise link tuning codeword symbols ⊎ (IsWholeFrame link tuning behind symbols × IsScattered (code_of link.rows) (frame_soft link tuning symbols) codeword)

-- those of the frame that was sent for a data field, which begins at this byte of the stream
abbrev pub IsHeard : Link → Tuning → Bool → ℕ → List ℕ → List Symbol → Type 0
IsHeard link tuning behind at field symbols =
    (codeword : List Bool) × IsCodewordFor link.setup.mode link.rows (header_at link.setup.roll_off at field) field codeword × IsClear link tuning behind codeword symbols

-- The frames of consecutive data fields, each with a given property at its place, and dummy frames among them. Each is
-- whole, and its header is found. The first is found by one test, all others, right after a frame, by that of the lock
abbrev pub AreEach : (Bool → ℕ → List ℕ → List Symbol → Type 0) → (Bool → List Symbol → Found) → Bool → ℕ → List Piece → List (List ℕ) → Type 0
AreEach holds finds behind at [] [] = ⊤
AreEach holds finds behind at [] (field ∷ fields) = ⊥
AreEach holds finds behind at (coded symbols ∷ pieces) [] = ⊥
AreEach holds finds behind at (coded symbols ∷ pieces) (field ∷ fields) = holds behind at field symbols × AreEach holds finds true (at + length field) pieces fields
AreEach holds finds behind at (dummy symbols ∷ pieces) fields = IsDummy finds behind symbols × AreEach holds finds true at pieces fields

-- the frames of consecutive data fields, with dummy frames among them: each is clear, and its header is found
abbrev pub AreHeard : Link → Tuning → Bool → ℕ → List Piece → List (List ℕ) → Type 0
AreHeard link tuning = AreEach (IsHeard link tuning) (found_as (sought_by link tuning) tuning.max_header_errors)

-- the places of the coded frames, from a position on, and their verdicts, figures and rotations by these rules
abbrev pub places_in : Rules → ℕ → List Piece → List FramePlace
places_in rules at [] = []
places_in rules at (coded symbols ∷ pieces) =
    record { at = at; verdict = (rules.decide symbols).verdict; figures = (rules.decide symbols).figures; turn = (rules.decide symbols).turn } ∷ places_in rules (at + rules.size) pieces
places_in rules at (dummy symbols ∷ pieces) = places_in rules (at + dummy_symbols) pieces

-- Each of the first coded frames is reported as certified. Exactly the packets whose closing CRC-8 is in their data
-- fields are written; all packets, if these are all fields
pub record FrontArrives (link : Link) (tuning : Tuning) (limit : ℕ) (packets fields later : List (List ℕ)) (pieces : List Piece) (before behind : Streams) : Type 0 where
  pub written : Appends before.given behind.given (joined (take (closed_in (length (joined fields))) packets))
  pub lines : Appends before.out behind.out (certified_lines 0 (places_in (link_rules link tuning limit) 0 pieces))
  pub certified : All (λ (place : FramePlace). IsTrue (is_certified place.verdict)) (places_in (link_rules link tuning limit) 0 pieces)
  pub all : later ≡ [] → take (closed_in (length (joined fields))) packets ≡ packets

-- The output of a receiver, with any divisor, after the first coded frames of a stream of packets, if they came clear.
-- Dummy frames may be among them, and anything may follow
abbrev pub FirstFramesLaw : Mode → Type 0
FirstFramesLaw m =
    (link : Link) (tuning : Tuning) (limit : ℕ) (packets fields later : List (List ℕ)) (pieces : List Piece) (rest : List Symbol) (mid : State) (before behind : Streams) (met : List Met)
    → IsLinkOf m link → link.setup.roll_off ≤ max_roll_off → IsDivisor tuning.divisor → All IsPacket packets → AreBytes (joined packets)
    → fields ++ later ≡ fields_of (field_bytes link.setup.mode) (stream_of packets) → AreHeard link tuning false 0 pieces fields
    → SpellSymbols before.taken (stream_symbols pieces ++ rest) → length met ≡ length fields → Processed (link_rules link tuning limit) begun mid before behind met
    → FrontArrives link tuning limit packets fields later pieces before behind

-- two runs have the same totals and the same result, and wrote the same
pub record GiveTheSame (first second : State) (certified other_certified : Bool) (before behind other_before other_behind : Streams) : Type 0 where
  pub totals : first.standing.totals ≡ second.standing.totals
  pub answer : certified ≡ other_certified
  pub packets : (gained : List ℕ) × Appends before.given behind.given gained × Appends other_before.given other_behind.given gained
  pub lines : (gained : List ℕ) × Appends before.out behind.out gained × Appends other_before.out other_behind.out gained

-- Two receivers of a link in the same state, over bytes that spell the same symbols, run to the end with the same result.
-- It does not matter how their readers cut the bytes, nor which bytes come after the last symbol
abbrev pub OneStreamLaw : Type 0
OneStreamLaw =
    (link : Link) (tuning : Tuning) (limit : ℕ) (old first second : State) (symbols : List Symbol) (before behind other_before other_behind : Streams) (certified other_certified : Bool)
    → SpellSymbols before.taken symbols → SpellSymbols other_before.taken symbols
    → RunsTo (link_rules link tuning limit) old first before behind certified → RunsTo (link_rules link tuning limit) old second other_before other_behind other_certified
    → GiveTheSame first second certified other_certified before behind other_before other_behind
