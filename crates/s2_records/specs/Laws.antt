-- Laws of records, which follow from the definitions alone (own).
use Rattle.std.specs.Prelude.{◌≡◌, ℕ, ◌/◌, true, List, length, All, ℤ, Option, Ok}
use Rattle.std.specs.List.{flat_map}
use Rattle.std.specs.Io.KnownBytes.{Appends}
use Rattle.s2_mode.specs.Mode.{Mode, IsMode, kbch_of}
use Rattle.s2_mode.specs.Streams.{Streams}
use Rattle.s2_mode.specs.declared.symbols.Symbol.{Symbol}
use Rattle.s2_certfile.specs.File.{IsSoft}
use Rattle.s2_rows.specs.Values.{values_of_text}
use Rattle.s2_receive.specs.Laws.{SpellSymbols}
use Rattle.s2_receive.specs.Decider.{IsSaidBy}
use Rattle.s2_receive.specs.Receiving.{Decision, Rules, RunsOut, State, begun}
use Rattle.s2_receive.specs.Sinks.{TakesFrames, frames_of}
use Rattle.s2_receive.specs.declared.sinks.FrameStart.{FrameStart}
use Rattle.s2_records.specs.Frames.{delivered_in, packets_in}
use Rattle.s2_records.specs.Values.{values_line}
use Rattle.s2_records.specs.Records.{Gains, GainsBbframe, Framing, gap_bytes, message_bytes, bbframe_bytes}

-- the records of frames, one after another
abbrev pub records_of : (Decision → List ℕ) → List (FrameStart × Decision) → List ℕ
records_of bytes frames = flat_map (λ frame. bytes frame.1) frames

-- the BBFRAMEs of frames, one after another, with the zeros for skipped symbols
abbrev pub bbframes_of : Mode → List (FrameStart × Decision) → List ℕ
bbframes_of m frames = flat_map (λ frame. bbframe_bytes m frame.0.after_gap frame.1) frames

-- a sink that took frames has written their records, one after another
abbrev pub RecordsLaw : {W : Type 0} → (W → Option (List ℕ)) → Type 0
RecordsLaw {W} contents =
    (bytes : Decision → List ℕ) (old new : W) (frames : List (FrameStart × Decision)) → TakesFrames (Gains contents bytes) old new frames → Appends (contents old) (contents new) (records_of bytes frames)

-- and a sink of BBFRAMEs
abbrev pub BbframesLaw : {W : Type 0} → (W → Option (List ℕ)) → Type 0
BbframesLaw {W} contents =
    (old new : Framing W) (frames : List (FrameStart × Decision)) → TakesFrames (GainsBbframe contents) old new frames → (new.mode ≡ old.mode) × Appends (contents old.to) (contents new.to) (bbframes_of old.mode frames)

-- the record of a frame has Kbch / 8 bytes, whether or not it was delivered, and so have the zeros for a gap
abbrev pub WholeLaw : Type 0
WholeLaw = (m : Mode) (decision : Decision) → IsMode m → (length (message_bytes m decision) ≡ kbch_of m / 8) × (length (gap_bytes m true) ≡ kbch_of m / 8)

-- a line of values is read as these values
abbrev pub ValuesLaw : Type 0
ValuesLaw = (soft : List ℤ) → All IsSoft soft → values_of_text (values_line soft) (length soft) ≡ Ok soft

-- If a frame's message says what the frame delivered, this is what `join` reads from its record: the header with the data
-- field, or a refused header
abbrev pub ReadBackLaw : Type 0
ReadBackLaw = (m : Mode) (decision : Decision) → IsMode m → IsSaidBy m decision.message decision.delivered → delivered_in m (message_bytes m decision) ≡ decision.delivered

-- A new receiver met all of known symbols, up to the end, and a file has the BBFRAMEs of all frames that it met. Then the
-- packets of this file, as `join` writes them, are exactly those that the receiver wrote. Each frame's message must say
-- what the frame delivered
abbrev pub JoinedLaw : Type 0
JoinedLaw =
    (m : Mode) (rules : Rules) (new : State) (before behind : Streams) (symbols : List Symbol) → IsMode m
    → ((frame : List Symbol) → IsSaidBy m (rules.decide frame).message (rules.decide frame).delivered) → SpellSymbols before.taken symbols
    → (run : RunsOut rules begun new before behind) → Appends before.given behind.given (packets_in m (bbframes_of m (frames_of rules run.1.0)))
