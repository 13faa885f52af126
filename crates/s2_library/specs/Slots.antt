-- The contents of a slot, and the calls on them (own).
use Rattle.std.specs.Prelude.{◌≡◌, ◌≢◌, ◌↔◌, ◌⊎◌, ℕ, ◌+◌, ◌/◌, ◌<◌, ◌≤◌, ℤ, List, [], ◌++◌, length, slice_get, Bool, true, false, if◌then◌else◌, Option, Some, None, Result, Ok, Err, All}
use Rattle.s2_bits.specs.Bits.{bytes_from}
use Rattle.s2_scramble.specs.Baseband.{scrambled}
use Rattle.s2_check.specs.CertificateBytes.{bytes_of}
use Rattle.s2_check.specs.Views.{View, IsSoft}
use Rattle.s2_receive.specs.Receiving.{asked}
use Rattle.s2_report.specs.declared.totals.Totals.{Totals}
use Rattle.s2_modem.specs.Reception.{Receiver, IsNew, certificate_of, rules_for, seen}
use Rattle.s2_send.specs.Sender.{Sender, MakesFrame, PutsBytes, Refuses, at_first, ended}
use Rattle.s2_send.specs.declared.outcome.SendFault.{SendFault}
use Rattle.s2_send.specs.declared.outcome.SendFault.TheVariants as send_faults
use Rattle.s2_bbframe.specs.DataStream.{IsReady, field_bytes}
use Rattle.s2_receive.specs.Answers.{Advances}
use Rattle.s2_report.specs.declared.report.Outcome.{Outcome}
use Rattle.s2_report.specs.declared.report.Outcome.TheVariants as outcomes
use Rattle.s2_report.specs.declared.report.Step.{Step}
use Rattle.s2_report.specs.declared.report.Step.TheVariants as steps
use Rattle.s2_report.specs.declared.figures.Figures.{Figures}
use Rattle.s2_report.specs.declared.figures.Sums.{Sums}
use Rattle.s2_rows.specs.Rows.{Rows}
use Rattle.s2_matrix.specs.Code.{code_of}
use Rattle.s2_judge.specs.Judging.{Judging}
use Rattle.s2_judge.specs.Deciding.{decided}
use Rattle.s2_scan.specs.Scanning.{AreHeadersOf}
use Rattle.s2_scan.specs.declared.candidate.Candidate.{Candidate}
use Rattle.s2_library.specs.Copying.{Copies}
use Rattle.s2_library.specs.declared.scanner.Scanner.{Scanner}
use Rattle.s2_library.specs.Fields.{step_fields, verdict_number}
use Rattle.s2_library.specs.declared.step.StepFields.{StepFields}
use Rattle.s2_library.specs.declared.refusal.Refusal.{Refusal}
use Rattle.s2_library.specs.declared.refusal.Refusal.TheVariants.{OtherKind, BadSize, BadSoft, Closed, CutPacket, Full, NoSync, TooMany, NoneThere, NoMemory}
use Rattle.s2_library.specs.declared.receiver.Reception.{Reception}
use Rattle.s2_library.specs.declared.slot.Slot.{Slot}
use Rattle.s2_library.specs.declared.slot.Slot.TheVariants as slots

-- the receiver of a slot
abbrev pub receiver_in : Slot → Option Receiver
receiver_in (slots.Receiver r) = Some r.receiver
receiver_in slot = None

-- the transmitter of a slot
abbrev pub sender_in : Slot → Option Sender
sender_in (slots.Transmitter s) = Some s
sender_in slot = None

-- the judge of a slot
abbrev pub judge_in : Slot → Option Judging
judge_in (slots.Judge j) = Some j
judge_in slot = None

-- the scanner of a slot
abbrev pub scanner_in : Slot → Option Scanner
scanner_in (slots.Scanner s) = Some s
scanner_in slot = None

-- what the last search of a scanner found at a place
abbrev pub seen_in : Option Scanner → ℕ → Option (Option Candidate)
seen_in None place = None
seen_in (Some s) place = Some (slice_get s.found.items place)

-- a list of a slot's contents, if they are of this kind
abbrev pub listed : {X A : Type 0} → (X → List A) → Option X → Option (List A)
listed list None = None
listed list (Some x) = Some (list x)

-- A list of a slot is copied to a buffer, and its length is given. If the slot is of another kind, nothing is written
abbrev pub CopiesOf : {A T : Type 0} → Option (List A) → (old new : List A) → (count_old count_new : ℕ) → Result T Refusal → Type 0
CopiesOf None old new n m result = (result ≡ Err OtherKind) × (new ≡ old) × (m ≡ n)
CopiesOf (Some items) old new n m result = Copies items old new m result

-- a value of a slot is given, if the slot is of this kind
abbrev pub Gives : {A : Type 0} → Option A → (old new : A) → Result (Unit {0}) Refusal → Type 0
Gives None old new result = (result ≡ Err OtherKind) × (new ≡ old)
Gives (Some x) old new result = (result ≡ Ok tt) × (new ≡ x)

-- the number of bytes that a receiver takes next
abbrev pub room_in : Option Receiver → Option ℕ
room_in None = None
room_in (Some r) = Some (asked (rules_for r) r.state)

-- what a slot has of a receiver: it, its link and tuning, and its last step
abbrev pub reception_in : Slot → Option Reception
reception_in (slots.Receiver r) = Some r
reception_in slot = None

-- A list of a slot that may be missing is copied to a buffer. It takes memory to make it
abbrev pub CopiesMadeOf : Option (Option (List ℕ)) → (old new : List ℕ) → (n m : ℕ) → Result (Unit {0}) Refusal → Type 0
CopiesMadeOf None old new n m result = (result ≡ Err OtherKind) × (new ≡ old) × (m ≡ n)
CopiesMadeOf (Some None) old new n m result = (result ≡ Err NoneThere) × (new ≡ old) × (m ≡ n)
CopiesMadeOf (Some (Some items)) old new n m result = Copies items old new m result ⊎ ((result ≡ Err NoMemory) × (new ≡ old) × (m ≡ n))

-- the file of a certificate
abbrev pub file_in : Option View → Option (List ℕ)
file_in None = None
file_in (Some view) = Some (bytes_of view)

-- the file of the certificate of a judge's last decision
abbrev pub decided_file : Option Judging → Option (Option (List ℕ))
decided_file None = None
decided_file (Some j) = Some (file_in j.certificate)

-- the file of the certificate of a receiver's last step
abbrev pub received_file : Option Receiver → Option (Option (List ℕ))
received_file None = None
received_file (Some r) = Some (file_in (certificate_of r))

-- whether a step is a delivered frame
abbrev pub is_delivered_by : Outcome → Bool
is_delivered_by (outcomes.Delivered fixed) = true
is_delivered_by outcome = false

abbrev pub is_delivered : Option Step → Bool
is_delivered (Some (steps.Frame report)) = is_delivered_by report.outcome
is_delivered step = false

-- the bytes of a message, descrambled
abbrev pub message_bytes : List Bool → List ℕ
message_bytes message = bytes_from 0 (length message / 8) (scrambled message)

-- the BBFRAME of a receiver's last step, if that is a delivered frame
abbrev pub bbframe_in : Option Reception → Option (Option (List ℕ))
bbframe_in None = None
bbframe_in (Some r) = Some (if is_delivered r.step then Some (message_bytes r.receiver.last.message) else None)

-- the figures of a step
abbrev pub figures_in : Option Step → Option Figures
figures_in (Some (steps.Frame report)) = report.figures
figures_in step = None

-- the figures of the last step of a receiver
abbrev pub last_figures : Option Reception → Option (Option Figures)
last_figures None = None
last_figures (Some r) = Some (figures_in r.step)

-- the sums of a receiver's figures
abbrev pub sums_in : Option Receiver → Option (Option Sums)
sums_in None = None
sums_in (Some r) = Some r.state.standing.totals.sums

-- the totals of a receiver
abbrev pub totals_in : Option Receiver → Option Totals
totals_in None = None
totals_in (Some r) = Some r.state.standing.totals

-- A value of a slot is written as fields, if the slot is of this kind and the caller set their size. Otherwise nothing is
abbrev pub GivesFields : {A F : Type 0} → (A → F) → Option A → (is_sized : Bool) → (old new : F) → Result (Unit {0}) Refusal → Type 0
GivesFields fields None is_sized old new result = (result ≡ Err OtherKind) × (new ≡ old)
GivesFields fields (Some x) false old new result = (result ≡ Err BadSize) × (new ≡ old)
GivesFields fields (Some x) true old new result = (result ≡ Ok tt) × (new ≡ fields x)

-- the same of a value that may be missing
abbrev pub GivesFieldsIf : {A F : Type 0} → (A → F) → Option (Option A) → (is_sized : Bool) → (old new : F) → Result (Unit {0}) Refusal → Type 0
GivesFieldsIf fields None is_sized old new result = (result ≡ Err OtherKind) × (new ≡ old)
GivesFieldsIf fields (Some value) false old new result = (result ≡ Err BadSize) × (new ≡ old)
GivesFieldsIf fields (Some None) true old new result = (result ≡ Err NoneThere) × (new ≡ old)
GivesFieldsIf fields (Some (Some x)) true old new result = (result ≡ Ok tt) × (new ≡ fields x)

-- The result of a receiver that is given bytes. It takes them if they are no more than it takes next, and the caller set
-- the size of the step. Then the step is written, and kept as the last one
abbrev pub TakesBytes : (old new : Reception) → List ℕ → StepFields → Type 0
TakesBytes old new bytes step =
    (length bytes ≤ asked (rules_for old.receiver) old.receiver.state) × Advances (seen old.receiver) (seen new.receiver) bytes new.step
    × (step ≡ step_fields new.step) × (new.link ≡ old.link) × (new.tuning ≡ old.tuning)

-- the cause of a refusal of bytes: the first of two
abbrev pub RefusesBytes : Reception → List ℕ → (size : ℕ) → Refusal → Type 0
RefusesBytes r bytes size BadSize = size ≢ 80
RefusesBytes r bytes size TooMany = (size ≡ 80) × (asked (rules_for r.receiver) r.receiver.state < length bytes)
RefusesBytes r bytes size refusal = ⊥

-- the result for a receiver; if it is refused, nothing changes
abbrev pub AdvancesReception : (old new : Reception) → List ℕ → (before behind : StepFields) → Result (Unit {0}) Refusal → Type 0
AdvancesReception old new bytes before behind (Ok done) = (before.size ≡ 80) × TakesBytes old new bytes behind
AdvancesReception old new bytes before behind (Err refusal) = RefusesBytes old bytes before.size refusal × (new ≡ old) × (behind ≡ before)

-- the result for a slot
abbrev pub AdvancesSlot : (old new : Slot) → List ℕ → (before behind : StepFields) → Result (Unit {0}) Refusal → Type 0
AdvancesSlot (slots.Receiver r) (slots.Receiver q) bytes before behind result = AdvancesReception r q bytes before behind result
AdvancesSlot old new bytes before behind result = (result ≡ Err OtherKind) × (new ≡ old) × (behind ≡ before)

-- a receiver begins anew on its link, with its tuning; or memory was refused, and nothing changes
abbrev pub ResetsReception : (old new : Reception) → Result (Unit {0}) Refusal → Type 0
ResetsReception old new (Ok done) = IsNew old.link old.tuning new.receiver × (new.step ≡ None) × (new.link ≡ old.link) × (new.tuning ≡ old.tuning)
ResetsReception old new (Err refusal) = (refusal ≡ NoMemory) × (new ≡ old)

-- the same for a slot
abbrev pub ResetsSlot : (old new : Slot) → Result (Unit {0}) Refusal → Type 0
ResetsSlot (slots.Receiver r) (slots.Receiver q) result = ResetsReception r q result
ResetsSlot old new result = (result ≡ Err OtherKind) × (new ≡ old)

-- A transmitter makes its next frame, and its symbols are copied. If the buffer is too short for them, the frame is made all the same.
-- If no frame is complete, nothing changes
abbrev pub TakesFrame : (old new : Sender) → (before behind : List ℕ) → (n m : ℕ) → Result (Unit {0}) Refusal → Type 0
TakesFrame old new before behind n m (Err NoneThere) = (IsReady old.stream.slicing → ⊥) × (new ≡ old) × (behind ≡ before) × (m ≡ n)
TakesFrame old new before behind n m result = MakesFrame old new × Copies new.unit before behind m result

-- the same for a slot
abbrev pub TakesFrameOf : (old new : Slot) → (before behind : List ℕ) → (n m : ℕ) → Result (Unit {0}) Refusal → Type 0
TakesFrameOf (slots.Transmitter s) (slots.Transmitter t) before behind n m result = TakesFrame s t before behind n m result
TakesFrameOf old new before behind n m result = (result ≡ Err OtherKind) × (new ≡ old) × (behind ≡ before) × (m ≡ n)

-- whether a transmitter has a frame that can be taken is given, if the slot has one
abbrev pub GivesReady : Option Sender → (n m : ℕ) → Result (Unit {0}) Refusal → Type 0
GivesReady None n m result = (result ≡ Err OtherKind) × (m ≡ n)
GivesReady (Some s) n m result = (result ≡ Ok tt) × (m ≤ 1) × ((m ≡ 1) ↔ IsReady s.stream.slicing)

-- the numbers of a transmitter's packets and frames are given, if the slot has one
abbrev pub GivesCounts : Option Sender → (n m k l : ℕ) → Result (Unit {0}) Refusal → Type 0
GivesCounts None n m k l result = (result ≡ Err OtherKind) × (m ≡ n) × (l ≡ k)
GivesCounts (Some s) n m k l result = (result ≡ Ok tt) × (m ≡ s.stream.packets) × (l ≡ s.stream.fields)

-- a transmitter begins anew on its link
abbrev pub Restarts : (old new : Sender) → Result (Unit {0}) Refusal → Type 0
Restarts old new result = (result ≡ Ok tt) × (new ≡ record old { stream = at_first (field_bytes old.link.setup.mode) old.stream.limit })

-- the same for a slot
abbrev pub RestartsOf : (old new : Slot) → Result (Unit {0}) Refusal → Type 0
RestartsOf (slots.Transmitter s) (slots.Transmitter t) result = Restarts s t result
RestartsOf old new result = (result ≡ Err OtherKind) × (new ≡ old)

-- a scanner that has no bytes, and has found nothing
abbrev pub IsNewScanner : Slot → Type 0
IsNewScanner (slots.Scanner s) = (s.bytes.items ≡ []) × (s.found.items ≡ [])
IsNewScanner slot = ⊥

-- the most bytes that a scanner keeps
abbrev pub most_scanned : ℕ
most_scanned = 67108864

-- a scanner keeps bytes too, or they are refused, and what it has is unchanged
abbrev pub KeepsBytes : (old new : Scanner) → List ℕ → Result (Unit {0}) Refusal → Type 0
KeepsBytes old new bytes (Ok done) = (new.bytes.items ≡ old.bytes.items ++ bytes) × (new.found ≡ old.found) × (length new.bytes.items ≤ most_scanned)
KeepsBytes old new bytes (Err TooMany) = (most_scanned < length old.bytes.items + length bytes) × (new ≡ old)
KeepsBytes old new bytes (Err refusal) = (refusal ≡ NoMemory) × (new.bytes.items ≡ old.bytes.items) × (new.found ≡ old.found)

-- the same for a slot
abbrev pub KeepsBytesOf : (old new : Slot) → List ℕ → Result (Unit {0}) Refusal → Type 0
KeepsBytesOf (slots.Scanner s) (slots.Scanner t) bytes result = KeepsBytes s t bytes result
KeepsBytesOf old new bytes result = (result ≡ Err OtherKind) × (new ≡ old)

-- a scanner has found the headers of its bytes; or memory was refused, and nothing changes
abbrev pub Finds : (old new : Scanner) → (n m : ℕ) → Result (Unit {0}) Refusal → Type 0
Finds old new n m (Ok done) = AreHeadersOf (Some old.bytes.items) new.found.items × (m ≡ length new.found.items) × (new.bytes ≡ old.bytes)
Finds old new n m (Err refusal) = (refusal ≡ NoMemory) × (new ≡ old) × (m ≡ n)

-- the same for a slot
abbrev pub FindsOf : (old new : Slot) → (n m : ℕ) → Result (Unit {0}) Refusal → Type 0
FindsOf (slots.Scanner s) (slots.Scanner t) n m result = Finds s t n m result
FindsOf old new n m result = (result ≡ Err OtherKind) × (new ≡ old) × (m ≡ n)

-- the refusal of a stream
abbrev pub send_refusal : SendFault → Refusal
send_refusal send_faults.NotWholePacket = CutPacket
send_refusal (send_faults.NoSync packet told) = NoSync
send_refusal send_faults.Read = Full
send_refusal send_faults.Write = Full

-- The result of a transmitter that is given bytes, by whether its stream was closed. It takes bytes, and their number is given. Or
-- the stream is refused for a fault. If it was closed, nothing changes
abbrev pub PutsPackets : (is_closed : Bool) → (old new : Sender) → List ℕ → (n m : ℕ) → Result (Unit {0}) Refusal → Type 0
PutsPackets true old new bytes n m result = (result ≡ Err Closed) × (new ≡ old) × (m ≡ n)
PutsPackets false old new bytes n m (Ok done) = PutsBytes old new bytes (Ok m)
PutsPackets false old new bytes n m (Err refusal) = (m ≡ n) × ((fault : SendFault) × (refusal ≡ send_refusal fault) × PutsBytes old new bytes (Err fault))

-- the same for a slot
abbrev pub PutsPacketsOf : (old new : Slot) → List ℕ → (n m : ℕ) → Result (Unit {0}) Refusal → Type 0
PutsPacketsOf (slots.Transmitter s) (slots.Transmitter t) bytes n m result = PutsPackets s.stream.slicing.closed s t bytes n m result
PutsPacketsOf old new bytes n m result = (result ≡ Err OtherKind) × (new ≡ old) × (m ≡ n)

-- a transmitter's stream ends; or it is refused, for a fault or because it was closed, and nothing changes
abbrev pub ClosesStream : (is_closed : Bool) → (old new : Sender) → Result (Unit {0}) Refusal → Type 0
ClosesStream true old new result = (result ≡ Err Closed) × (new ≡ old)
ClosesStream false old new (Ok done) = (old.stream.held ≡ []) × (new ≡ record old { stream = ended old.stream })
ClosesStream false old new (Err refusal) = (new ≡ old) × ((fault : SendFault) × (refusal ≡ send_refusal fault) × Refuses old.stream fault)

-- the same for a slot
abbrev pub ClosesStreamOf : (old new : Slot) → Result (Unit {0}) Refusal → Type 0
ClosesStreamOf (slots.Transmitter s) (slots.Transmitter t) result = ClosesStream s.stream.slicing.closed s t result
ClosesStreamOf old new result = (result ≡ Err OtherKind) × (new ≡ old)

-- the soft values of a word of a code: n of them, each in its range
abbrev pub AreSoft : Rows → List ℤ → Type 0
AreSoft rows soft = (length soft ≡ (code_of rows).bits) × All IsSoft soft

-- A judge decides on n soft values, and the number of the verdict is given. Otherwise nothing changes
abbrev pub DecidesOn : (old new : Judging) → List ℤ → (n m : ℕ) → Result (Unit {0}) Refusal → Type 0
DecidesOn old new soft n m (Ok done) =
    AreSoft old.rows soft × (m ≡ verdict_number (decided old.rows old.tuning soft).verdict)
    × (new.bits ≡ (decided old.rows old.tuning soft).bits) × (new.certificate ≡ (decided old.rows old.tuning soft).certificate)
    × (new.rows ≡ old.rows) × (new.tuning ≡ old.tuning)
DecidesOn old new soft n m (Err refusal) = (refusal ≡ BadSoft) × (AreSoft old.rows soft → ⊥) × (new ≡ old) × (m ≡ n)

-- the same for a slot
abbrev pub DecidesOnOf : (old new : Slot) → List ℤ → (n m : ℕ) → Result (Unit {0}) Refusal → Type 0
DecidesOnOf (slots.Judge i) (slots.Judge j) soft n m result = DecidesOn i j soft n m result
DecidesOnOf old new soft n m result = (result ≡ Err OtherKind) × (new ≡ old) × (m ≡ n)
