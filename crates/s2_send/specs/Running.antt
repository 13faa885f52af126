-- The steps of a run: a packet is read, and a frame is written (own).
use Rattle.std.specs.Prelude.{◌≡◌, ℕ, ◌+◌, ◌<◌, ◌⊎◌, Bool, true, false, List, [], length, Option, Result, Ok, Err}
use Rattle.std.specs.Io.KnownBytes.{Consumes, Appends, IsAtEnd}
use Rattle.s2_bbframe.specs.Limits.{packet_bytes}
use Rattle.s2_bbframe.specs.DataStream.{IsReady}
use Rattle.s2_send.specs.Sender.{Sender, ComesOn, MakesFrame, Refuses, SameSender, StopsThere}
use Rattle.s2_send.specs.Sinks.{Taking, TakesOrFails}
use Rattle.s2_send.specs.declared.outcome.SendFault.{SendFault}
use Rattle.s2_send.specs.declared.outcome.SendFault.TheVariants.{NotWholePacket, NoSync, Read, Write}

-- these bytes were read, and the sender has them
pub record Reading (old new : Sender) (reader_old reader_new : Option (List ℕ)) : Type 0 where
  pub bytes : List ℕ
  pub consumes : Consumes reader_old reader_new bytes
  pub comes : ComesOn bytes old.stream new.stream
  pub stops : StopsThere new.stream
  pub same : new ≡ record old { stream = new.stream }
  pub limit : SameSender old new
  pub size : new.stream.slicing.size ≡ old.stream.slicing.size

-- they are refused
pub record ReadsRefused (old new : Sender) (reader_old reader_new : Option (List ℕ)) (fault : SendFault) : Type 0 where
  pub reading : Reading old new reader_old reader_new
  pub refuses : Refuses new.stream fault
  pub not_ready : IsReady new.stream.slicing → ⊥
  pub goes_on : new.stream.slicing.closed ≡ false

-- A packet was read, and the sender has it. Or at the reader's end the stream has ended. If the packet is refused, or a read
-- failed, its bytes were read
abbrev pub ReadsNext : (old new : Sender) → (reader_old reader_new : Option (List ℕ)) → Result Bool SendFault → Type 0
ReadsNext old new reader_old reader_new (Ok true) =
    Reading old new reader_old reader_new × (new.stream.held ≡ []) × (new.stream.slicing.closed ≡ false) × (new.stream.packets ≡ old.stream.packets + 1)
ReadsNext old new reader_old reader_new (Ok false) =
    Reading old new reader_old reader_new × (new.stream.held ≡ []) × (new.stream.slicing.closed ≡ true) × IsAtEnd reader_new
    × (new.stream.packets ≡ old.stream.packets) × (new.stream.slicing.waiting ≡ old.stream.slicing.waiting)
ReadsNext old new reader_old reader_new (Err NotWholePacket) = ReadsRefused old new reader_old reader_new NotWholePacket × IsAtEnd reader_new
ReadsNext old new reader_old reader_new (Err (NoSync packet told)) = ReadsRefused old new reader_old reader_new (NoSync packet told)
ReadsNext old new reader_old reader_new (Err Read) = (rest : List ℕ) × (length rest < packet_bytes) × Consumes reader_old reader_new rest × (new ≡ old)
ReadsNext old new reader_old reader_new (Err Write) = ⊥

-- the next frame was made, the sink took its codeword, and its unit is written; or there is none
abbrev pub WritesNext : {S : Type 0} → (takes : Taking S) → (old new : Sender) → (sink_old sink_new : S) → (writer_old writer_new : Option (List ℕ)) → Type 0
WritesNext takes old new sink_old sink_new writer_old writer_new =
    (MakesFrame old new × takes sink_old sink_new new.codeword × Appends writer_old writer_new new.unit)
    ⊎ ((IsReady old.stream.slicing → ⊥) × (new ≡ old) × (sink_new ≡ sink_old) × (writer_new ≡ writer_old))

-- the same, or a call failed: either the sink failed, or it took the codeword and a part of the unit is written
abbrev pub SendsNext : {S T E : Type 0} → (takes fails : Taking S) → (old new : Sender) → (sink_old sink_new : S) → (writer_old writer_new : Option (List ℕ)) → Result T E → Type 0
SendsNext takes fails old new sink_old sink_new writer_old writer_new (Ok done) = WritesNext takes old new sink_old sink_new writer_old writer_new
SendsNext takes fails old new sink_old sink_new writer_old writer_new (Err fault) =
    MakesFrame old new × TakesOrFails takes fails new.codeword new.unit sink_old sink_new writer_old writer_new
