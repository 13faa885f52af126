-- What a receiver's sinks write of each frame besides its packets (own).
use Rattle.std.specs.Prelude.{◌≡◌, ℕ, ◌/◌, ◌==◌, ◌&&◌, if◌then◌else◌, Bool, List, [], ◌++◌, length, replicate, Option, Some, None}
use Rattle.std.specs.Option.{is_some}
use Rattle.std.specs.Io.KnownBytes.{Appends}
use Rattle.s2_mode.specs.Mode.{Mode, kbch_of}
use Rattle.s2_mode.specs.Pieces.{AppendsPart}
use Rattle.s2_certfile.specs.Field.{bytes_of_bits}
use Rattle.s2_check.specs.CertificateBytes.{bytes_of}
use Rattle.s2_check.specs.Views.{View}
use Rattle.s2_scramble.specs.Baseband.{scrambled}
use Rattle.s2_receive.specs.Receiving.{Decision}
use Rattle.s2_receive.specs.Sinks.{Taking}
use Rattle.s2_records.specs.Values.{values_line}

-- ---- the bytes of a frame

-- the bytes of a certificate's file, or nothing
abbrev pub certificate_bytes : Option View → List ℕ
certificate_bytes None = []
certificate_bytes (Some view) = bytes_of view

-- the file of a frame's certificate; nothing if the frame has none
abbrev pub certificate_record : Decision → List ℕ
certificate_record decision = certificate_bytes decision.certificate

-- the line of a frame's soft values
abbrev pub values_record : Decision → List ℕ
values_record decision = values_line decision.soft

-- a frame's decided bits, eight to a byte, the first the highest
abbrev pub codeword_bytes : Decision → List ℕ
codeword_bytes decision = bytes_of_bits decision.bits

-- for a BBFRAME that is not known: Kbch / 8 zeros, the size of each BBFRAME of the mode
abbrev pub no_bbframe : Mode → List ℕ
no_bbframe m = replicate (kbch_of m / 8) 0

-- whether a frame was delivered, with a message of the mode's Kbch bits
abbrev pub has_bbframe : Mode → Decision → Bool
has_bbframe m decision = is_some decision.delivered && (length decision.message == kbch_of m)

-- a frame's BBFRAME: its message without the baseband sequence, header and padding with it; zeros if it was not
-- delivered
abbrev pub message_bytes : Mode → Decision → List ℕ
message_bytes m decision = if has_bbframe m decision then bytes_of_bits (scrambled decision.message) else no_bbframe m

-- instead of skipped symbols: the zeros of one BBFRAME
abbrev pub gap_bytes : Mode → (after_gap : Bool) → List ℕ
gap_bytes m after_gap = if after_gap then no_bbframe m else []

-- the BBFRAME of a frame; before it zeros instead of skipped symbols, if there were any
abbrev pub bbframe_bytes : Mode → (after_gap : Bool) → Decision → List ℕ
bbframe_bytes m after_gap decision = gap_bytes m after_gap ++ message_bytes m decision

-- ---- sinks

-- a writer took exactly these bytes of a frame
abbrev pub Gains : {W : Type 0} → (W → Option (List ℕ)) → (Decision → List ℕ) → Taking W
Gains contents bytes old new start decision = Appends (contents old) (contents new) (bytes decision)

-- a write failed: the writer took a part of them, from the first one on, and not all
abbrev pub GainsPart : {W : Type 0} → (W → Option (List ℕ)) → (Decision → List ℕ) → Taking W
GainsPart contents bytes old new start decision = AppendsPart (bytes decision) (contents old) (contents new)

-- a sink of BBFRAMEs, of labels or of symbols: its mode, and its writer
pub record Framing (W : Type 0) : Type 0 where
  pub mode : Mode
  pub to : W

-- its writer took exactly the BBFRAME of a frame, after the zeros for skipped symbols
abbrev pub GainsBbframe : {W : Type 0} → (W → Option (List ℕ)) → Taking (Framing W)
GainsBbframe contents old new start decision =
    (new.mode ≡ old.mode) × Appends (contents old.to) (contents new.to) (bbframe_bytes old.mode start.after_gap decision)

-- a write failed: its writer took a part of these bytes, from the first one on, and not all
abbrev pub GainsBbframePart : {W : Type 0} → (W → Option (List ℕ)) → Taking (Framing W)
GainsBbframePart contents old new start decision =
    (new.mode ≡ old.mode) × AppendsPart (bbframe_bytes old.mode start.after_gap decision) (contents old.to) (contents new.to)
