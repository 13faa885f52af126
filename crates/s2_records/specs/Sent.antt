-- What a sender's sinks write of each frame (own).
use Rattle.std.specs.Prelude.{◌≡◌, ℕ, ◌≤◌, nat_lt, if◌then◌else◌, true, Bool, List, length, take, Option}
use Rattle.std.specs.List.{flat_map}
use Rattle.std.specs.Option.{is_some}
use Rattle.std.specs.Io.KnownBytes.{Appends}
use Rattle.s2_mode.specs.Mode.{Mode, kbch_of}
use Rattle.s2_mode.specs.Pieces.{AppendsPart}
use Rattle.s2_certfile.specs.Field.{bytes_of_bits}
use Rattle.s2_scramble.specs.Baseband.{scrambled}
use Rattle.s2_receive.specs.Receiving.{Decision}
use Rattle.s2_send.specs.Sinks.{Taking, TakesCodewords}
use Rattle.s2_records.specs.Records.{Framing, codeword_bytes, message_bytes, no_bbframe}

-- ---- the bytes of a frame

-- its BBFRAME: the codeword's first Kbch bits without the baseband sequence; zeros if the codeword has fewer bits
abbrev pub sent_bbframe : Mode → List Bool → List ℕ
sent_bbframe m codeword = if nat_lt (length codeword) (kbch_of m) then no_bbframe m else bytes_of_bits (scrambled (take (kbch_of m) codeword))

-- ---- sinks

-- a writer took exactly the codeword, eight bits to a byte, the first the highest
abbrev pub GainsWord : {W : Type 0} → (W → Option (List ℕ)) → Taking W
GainsWord contents old new codeword = Appends (contents old) (contents new) (bytes_of_bits codeword)

-- a write failed: the writer took a part of it, from the first byte on, and not all
abbrev pub GainsWordPart : {W : Type 0} → (W → Option (List ℕ)) → Taking W
GainsWordPart contents old new codeword = AppendsPart (bytes_of_bits codeword) (contents old) (contents new)

-- the writer of a sink of a mode took exactly the record of a codeword: these bytes
abbrev pub GainsOf : {W : Type 0} → (W → Option (List ℕ)) → (Mode → List Bool → List ℕ) → Taking (Framing W)
GainsOf contents bytes old new codeword = (new.mode ≡ old.mode) × Appends (contents old.to) (contents new.to) (bytes old.mode codeword)

-- a write failed: its writer took a part of it, from the first byte on, and not all
abbrev pub GainsPartOf : {W : Type 0} → (W → Option (List ℕ)) → (Mode → List Bool → List ℕ) → Taking (Framing W)
GainsPartOf contents bytes old new codeword = (new.mode ≡ old.mode) × AppendsPart (bytes old.mode codeword) (contents old.to) (contents new.to)

-- ---- laws

-- a sink that took codewords has written them, one after another
abbrev pub WordsLaw : {W : Type 0} → (W → Option (List ℕ)) → Type 0
WordsLaw {W} contents =
    (old new : W) (codewords : List (List Bool)) → TakesCodewords (GainsWord contents) old new codewords → Appends (contents old) (contents new) (flat_map bytes_of_bits codewords)

-- and a sink of a mode has written their records
abbrev pub SentLaw : {W : Type 0} → (W → Option (List ℕ)) → Type 0
SentLaw {W} contents =
    (bytes : Mode → List Bool → List ℕ) (old new : Framing W) (codewords : List (List Bool)) → TakesCodewords (GainsOf contents bytes) old new codewords
    → (new.mode ≡ old.mode) × Appends (contents old.to) (contents new.to) (flat_map (bytes old.mode) codewords)

-- Suppose a frame is delivered, its decided word is a codeword, and its message the first Kbch bits of it. Then both ends
-- write the same bytes: the receiver for the frame, and the transmitter for the codeword
abbrev pub BothEndsLaw : Type 0
BothEndsLaw =
    (m : Mode) (decision : Decision) (codeword : List Bool) → kbch_of m ≤ length codeword → is_some decision.delivered ≡ true
    → decision.bits ≡ codeword → decision.message ≡ take (kbch_of m) codeword
    → (codeword_bytes decision ≡ bytes_of_bits codeword) × (message_bytes m decision ≡ sent_bbframe m codeword)
