-- Packets reassembled from delivered data fields: the data stream (EN 302 307-1, 5.1.4 and 5.1.5) read backwards.
use Rattle.std.specs.Prelude.{◌≡◌, ℕ, ◌+◌, ◌-◌, ◌*◌, ◌/◌, ◌<◌, nat_eq, nat_lt, if◌then◌else◌, List, [], ◌∷◌, ◌++◌, All, length, drop, take, Option, Some, None, ⊤}
use Rattle.std.specs.List.{flat_map}
use Rattle.s2_bbframe.specs.Limits.{body_bytes, no_syncd, packet_bytes, sync}
use Rattle.s2_bbframe.specs.DataStream.{IsPacket, stream_of, header_at, to_place}
use Rattle.s2_bbframe.specs.Crc.{crc8}
use Rattle.s2_bbframe.specs.declared.header.Header.{Header}

-- ---- a run: body, place, body, place and so on

-- what the bytes of a run give: packets, how many bodies were wrong, and an unfinished body
pub record Run : Type 0 where
  pub body : List ℕ
  pub good : List (List ℕ)
  pub bad : ℕ

-- packets and wrong bodies that come before
abbrev pub more : List (List ℕ) → ℕ → Run → Run
more good bad r = record { body = r.body; good = good ++ r.good; bad = bad + r.bad }

-- a body and the place after it: a packet, which begins with the sync byte, if the place holds the body's CRC-8
abbrev pub closing : List ℕ → ℕ → Run → Run
closing body place r = if nat_eq place (crc8 body) then more ((sync ∷ body) ∷ []) 0 r else more [] 1 r

-- the bytes of a run that go on after part of a body
abbrev pub run_of : List ℕ → List ℕ → Run
run_of body [] = record { body = body; good = []; bad = 0 }
run_of body (byte ∷ bytes) = if nat_eq (length body) body_bytes then closing body byte (run_of [] bytes) else run_of (body ++ byte ∷ []) bytes

-- ---- the joiner

-- the joiner and what it gave: it is lost, or inside a run and holds part of a body
pub record Joined : Type 0 where
  pub held : Option (List ℕ)
  pub good : List (List ℕ)
  pub bad : ℕ

-- it gave nothing
abbrev pub still : Option (List ℕ) → Joined
still held = record { held = held; good = []; bad = 0 }

-- the joiner inside a run, with the unfinished body held, and what the run gave
abbrev pub inside : Run → Joined
inside r = record { held = Some r.body; good = r.good; bad = r.bad }

-- the distance in bits to the run's next place, or `no_syncd` if it is past the field
abbrev pub place_in : List ℕ → List ℕ → ℕ
place_in body bytes = if nat_lt (body_bytes - length body) (length bytes) then 8 * (body_bytes - length body) else no_syncd

-- a field that comes while the joiner is lost: a run begins after the place that SYNCD names
abbrev pub begins : ℕ → List ℕ → Joined
begins syncd bytes = if nat_eq syncd no_syncd then still None else inside (run_of [] (drop (syncd / 8 + 1) bytes))

-- a field that comes inside a run: the run continues if SYNCD names its next place, else it has ended
abbrev pub goes_on : List ℕ → ℕ → List ℕ → Joined
goes_on body syncd bytes = if nat_eq syncd (place_in body bytes) then inside (run_of body bytes) else begins syncd bytes

-- an empty field changes nothing
abbrev pub fed : Option (List ℕ) → ℕ → List ℕ → Joined
fed held syncd [] = still held
fed None syncd (byte ∷ bytes) = begins syncd (byte ∷ bytes)
fed (Some body) syncd (byte ∷ bytes) = goes_on body syncd (byte ∷ bytes)

-- ---- all that comes to the joiner

-- a field with its header, or a gap: a field may be missing here
pub data Event : Type 0 where
  field : Header → List ℕ → Event
  gap : Event

-- what an event makes of a joiner; a gap makes it lost
abbrev pub step : Option (List ℕ) → Event → Joined
step held (field header bytes) = fed held header.syncd bytes
step held gap = still None

-- a body that was begun, with at least a byte
abbrev pub begun_body : Option (List ℕ) → ℕ
begun_body (Some (byte ∷ body)) = 1
begun_body (Some []) = 0
begun_body None = 0

-- The number of begun bodies that a field drops: that of a run that does not continue. An empty field drops none.
abbrev pub incomplete_by : Option (List ℕ) → ℕ → List ℕ → ℕ
incomplete_by held syncd [] = 0
incomplete_by None syncd (byte ∷ bytes) = 0
incomplete_by (Some body) syncd (byte ∷ bytes) = if nat_eq syncd (place_in body (byte ∷ bytes)) then 0 else begun_body (Some body)

-- and a gap drops the one that is held
abbrev pub incomplete_in : Option (List ℕ) → Event → ℕ
incomplete_in held (field header bytes) = incomplete_by held header.syncd bytes
incomplete_in held gap = begun_body held

-- all that come, one after another
abbrev pub incomplete : Option (List ℕ) → List Event → ℕ
incomplete held [] = 0
incomplete held (event ∷ events) = incomplete_in held event + incomplete (step held event).held events

-- a first result and the next one together
abbrev pub and_then : Joined → Joined → Joined
and_then first second = record { held = second.held; good = first.good ++ second.good; bad = first.bad + second.bad }

-- all events, one after another
abbrev pub joining : Option (List ℕ) → List Event → Joined
joining held [] = still held
joining held (event ∷ events) = and_then (step held event) (joining (step held event).held events)

-- ---- the fields of a data stream, and their packets again

-- the fields of a stream from a byte of it on, each with its header
abbrev pub events_from : ℕ → ℕ → List (List ℕ) → List Event
events_from roll_off at [] = []
events_from roll_off at (bytes ∷ fields) = field (header_at roll_off at bytes) bytes ∷ events_from roll_off (at + length bytes) fields

-- in each of these fields lies a place
abbrev pub Placed : ℕ → List (List ℕ) → Type 0
Placed at [] = ⊤
Placed at (bytes ∷ fields) = (to_place at < length bytes) × Placed (at + length bytes) fields

-- the number of packets whose closing CRC-8 is in the first n bytes of a stream
abbrev pub closed_in : ℕ → ℕ
closed_in bytes = (bytes - 1) / packet_bytes

-- Any first fields of a data stream give exactly the packets whose closing CRC-8 is in them, and none is bad or
-- incomplete.
abbrev pub RoundTripLaw : Type 0
RoundTripLaw =
    (roll_off : ℕ) (packets fields : List (List ℕ)) (rest : List ℕ)
    → All IsPacket packets → stream_of packets ≡ flat_map (λ bytes. bytes) fields ++ rest → Placed 0 fields
    → ((joining None (events_from roll_off 0 fields)).good ≡ take (closed_in (length (flat_map (λ bytes. bytes) fields))) packets)
    × ((joining None (events_from roll_off 0 fields)).bad ≡ 0)
    × (incomplete None (events_from roll_off 0 fields) ≡ 0)
