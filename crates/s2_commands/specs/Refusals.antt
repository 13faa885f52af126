-- How a refusal of the transmitter ends a command, and the note on a refused packet (own).
use Rattle.std.specs.Prelude.{ℕ, ◌-◌, ◌*◌, ◌==◌, if◌then◌else◌, List, [], ◌++◌, length, codes, decimal, Result, Ok, Err}
use Rattle.s2_bbframe.specs.Limits.{packet_bytes}
use Rattle.s2_send.specs.FaultTexts.{send_fault_text}
use Rattle.s2_send.specs.Hints.{size_hint}
use Rattle.s2_send.specs.declared.outcome.SendFault.{SendFault}
use Rattle.s2_send.specs.declared.outcome.SendFault.TheVariants as refusals
use Rattle.s2_io.specs.declared.fault.Fault.{Fault}
use Rattle.s2_io.specs.declared.fault.Fault.TheVariants as faults

-- the fault of a refusal
abbrev pub refusal_fault : SendFault → Fault
refusal_fault refusals.Read = faults.Read
refusal_fault refusals.Write = faults.Write
refusal_fault refusal = faults.Refused (codes "packets: " ++ send_fault_text refusal)

-- what a command makes of packets that are all sent, or the refusal of one of them
abbrev pub Sent : Type 0 → Type 0
Sent T = Result T SendFault

-- how a command ends whose packets are all sent
abbrev pub sent_by : {T : Type 0} → Result T Fault → Result (Sent T) Fault
sent_by (Ok made) = Ok (Ok made)
sent_by (Err f) = Err f

-- how a refusal ends it: a stream that failed is a fault
abbrev pub refused_by : {T : Type 0} → SendFault → Result (Sent T) Fault
refused_by refusals.Read = Err faults.Read
refused_by refusals.Write = Err faults.Write
refused_by refusal = Ok (Err refusal)

-- ---- the note

-- the position of packet I, counted from 1, if packets have 188 bytes
abbrev pub packet_place : ℕ → ℕ
packet_place packet = packet_bytes * (packet - 1)

-- the colon before a hint, if there is a hint
abbrev pub colon_before : List ℕ → List ℕ
colon_before hint = if length hint == 0 then [] else codes ": "

-- packet I begins at byte B, and after a colon what to do with packets of another size, if that is known
unfoldable pub packet_note : ℕ → List ℕ → List ℕ
packet_note packet hint =
    (codes "s2: note: packet " ++ decimal packet) ++ (codes " begins at byte " ++ decimal (packet_place packet))
    ++ colon_before hint ++ hint ++ codes "\n"

-- the note on a refusal: on a packet without sync
abbrev pub refusal_note : SendFault → List ℕ
refusal_note (refusals.NoSync packet size) = packet_note packet (size_hint size)
refusal_note refusal = []
