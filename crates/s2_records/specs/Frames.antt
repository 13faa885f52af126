-- A file of BBFRAMEs, one after another, each with its header and not scrambled (EN 302 307-1, 5.1 and 5.2).
use Rattle.std.specs.Prelude.{ℕ, ◌/◌, ◌%◌, List, length, take, drop, Option, Some, None, Result, Ok, Err, map}
use Rattle.s2_mode.specs.Mode.{Mode, kbch_of}
use Rattle.s2_bbframe.specs.DataStream.{cuts}
use Rattle.s2_bbframe.specs.Headers.{header_of_bytes}
use Rattle.s2_bbframe.specs.Joining.{Event, Joined, joining}
use Rattle.s2_bbframe.specs.declared.header.Header.{Header}
use Rattle.s2_bbframe.specs.declared.header.HeaderFault.{HeaderFault}
use Rattle.s2_receive.specs.Laws.{joined}
use Rattle.s2_receive.specs.Receiving.{delivery}
use Rattle.s2_records.specs.Limits.{header_size}

-- the bytes of a BBFRAME, which has Kbch bits
abbrev pub frame_bytes : Mode → ℕ
frame_bytes m = kbch_of m / 8

-- the data field of a frame with this header: DFL / 8 bytes after the header; padding follows
abbrev pub field_of : Header → List ℕ → List ℕ
field_of header frame = take (header.dfl / 8) (drop header_size frame)

-- what a frame delivers, by what its header's bytes say: an accepted header with the data field, or nothing
abbrev pub delivered_by : List ℕ → Result Header HeaderFault → Option (Header × List ℕ)
delivered_by frame (Ok header) = Some (header, field_of header frame)
delivered_by frame (Err fault) = None

-- what a frame of a mode delivers
abbrev pub delivered_in : Mode → List ℕ → Option (Header × List ℕ)
delivered_in m frame = delivered_by frame (header_of_bytes m (take header_size frame))

-- the joiner's event for a frame: its data field with the header, or a gap if the header is refused
abbrev pub event_of : Mode → List ℕ → Event
event_of m frame = delivery (delivered_in m frame)

-- all that the joiner makes of frames, one after another
abbrev pub joined_from : Mode → List (List ℕ) → Joined
joined_from m frames = joining None (map (event_of m) frames)

-- the whole frames of a file
abbrev pub frames_in : Mode → List ℕ → List (List ℕ)
frames_in m bytes = cuts (frame_bytes m) (length bytes / frame_bytes m) bytes

-- the bytes of an incomplete last frame; 0 if there is none
abbrev pub cut_in : Mode → List ℕ → ℕ
cut_in m bytes = length bytes % frame_bytes m

-- the packets of a file of BBFRAMEs: those that the joiner makes of its whole frames
abbrev pub packets_in : Mode → List ℕ → List ℕ
packets_in m bytes = joined (joined_from m (frames_in m bytes)).good
