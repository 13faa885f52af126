-- Commands that send packets: how they end, and what becomes of symbols in memory beside the input.
use Rattle.s2_commands.proofs.Names.{◌≡◌, ◌≢◌, ◌⊎◌, ◌+◌, ℕ, Bool, List, Option, Some, None, Result, Ok, Err, ap, inl, inr, refl, IsErrOf, OneFailed, NoneFailed, Ends, ends_of, CausesWith, Taking, Rules, Received, Channel, Seeds, Exit, Fault, Counts, SendFault, Sent, sent_by, refused_by, ReceivesNoisy, ReceivesWithNoise, ReceivesRuns}
use Rattle.s2_commands.proofs.Names.faults
use Rattle.s2_commands.proofs.Names.refusals

-- if packets are all sent, a fault of the command is that of what it made of them
pub from_sent : {T : Type 0} (made : Result T Fault) (f : Fault) → sent_by made ≡ Err f → made ≡ Err f
from_sent (Ok v) f e = absurd cc
from_sent (Err g) f e =
    let same : g ≡ f = cc in
    ap Err same

pub to_sent : {T : Type 0} (made : Result T Fault) (f : Fault) → made ≡ Err f → sent_by made ≡ Err f
to_sent made f e = ap sent_by e

-- the failures that it reports are those of what it made of the packets; no read of them failed
pub causes_sent : {K T : Type 0} (count : K → ℕ) (old new : Ends K) (taken taken_after : Option (List ℕ)) (reads reads_after : ℕ) (made : Result T Fault) → reads_after ≡ reads → CausesWith count old new made
    → CausesWith count (ends_of (record old.streams { taken = taken; reads = reads }) old.sinks) (ends_of (record new.streams { taken = taken_after; reads = reads_after }) new.sinks) (sent_by made)
causes_sent count old new taken taken_after reads reads_after made same h =
    record {
      no_read = λ e. same;
      write_reported = λ e. h.write_reported (from_sent made _ e);
      no_write = λ no. h.no_write (λ e. no (to_sent made _ e));
    }

-- what becomes of symbols with noise does not depend on the input
noisy_beside : {K : Type 0} (takes fails : Taking K) (rules : Rules) (noisy : List ℕ) (added : Result Exit Fault) (begun : Bool) (old new : Ends K) (taken taken_after : Option (List ℕ)) (reads reads_after : ℕ) (ended : Result Received Fault)
    → ReceivesNoisy takes fails rules noisy added begun old new ended
    → ReceivesNoisy takes fails rules noisy added begun (ends_of (record old.streams { taken = taken; reads = reads }) old.sinks) (ends_of (record new.streams { taken = taken_after; reads = reads_after }) new.sinks) ended
noisy_beside takes fails rules noisy (Ok exit) begun old new taken taken_after reads reads_after ended h = h
noisy_beside takes fails rules noisy (Err f) begun old new taken taken_after reads reads_after ended h = h

noise_beside : {K : Type 0} (takes fails : Taking K) (rules : Rules) (channel : Channel) (symbols : List ℕ) (begun : Bool) (old new : Ends K) (taken taken_after : Option (List ℕ)) (reads reads_after : ℕ) (ended : Result Received Fault)
    → ReceivesWithNoise takes fails rules channel symbols begun old new ended
    → ReceivesWithNoise takes fails rules channel symbols begun (ends_of (record old.streams { taken = taken; reads = reads }) old.sinks) (ends_of (record new.streams { taken = taken_after; reads = reads_after }) new.sinks) ended
noise_beside takes fails rules channel symbols begun old new taken taken_after reads reads_after ended (inl (added, left, noisy, failed, adds, receives)) =
    inl (added, left, noisy, failed, adds, noisy_beside takes fails rules noisy added begun old new taken taken_after reads reads_after ended receives)
noise_beside takes fails rules channel symbols begun old new taken taken_after reads reads_after ended (inr none) = inr none

pub runs_beside : {K : Type 0} (takes fails : Taking K) (rules : Rules) (channel : Channel) (seeds : Option Seeds) (symbols : List ℕ) (begun : Bool) (old new : Ends K) (taken taken_after : Option (List ℕ)) (reads reads_after : ℕ) (ended : Result Received Fault)
    → ReceivesRuns takes fails rules channel seeds symbols begun old new ended
    → ReceivesRuns takes fails rules channel seeds symbols begun (ends_of (record old.streams { taken = taken; reads = reads }) old.sinks) (ends_of (record new.streams { taken = taken_after; reads = reads_after }) new.sinks) ended
runs_beside takes fails rules channel None symbols begun old new taken taken_after reads reads_after ended h =
    noise_beside takes fails rules channel symbols begun old new taken taken_after reads reads_after ended h
runs_beside takes fails rules channel (Some seeds) symbols begun old new taken taken_after reads reads_after ended h = h

-- a call of a writer or of the sinks failed, and nothing was printed
one_failed : (writes writes_after prints prints_after count count_after : ℕ) → prints_after ≡ prints → OneFailed writes writes_after count count_after
    → (OneFailed writes writes_after prints prints_after × (count_after ≡ count)) ⊎ (NoneFailed writes writes_after prints prints_after × (count_after ≡ count + 1))
one_failed writes writes_after prints prints_after count count_after same (inl h) = inl (inl (h.0, same), h.1)
one_failed writes writes_after prints prints_after count count_after same (inr h) = inr ((h.0, same), h.1)

-- how a transmitter answers with a refusal
abbrev failed : SendFault → Result Counts SendFault
failed refusal = Err refusal

-- the failures that a command reports if a refusal ends it, and nothing was printed
pub causes_refused : {K T : Type 0} (count : K → ℕ) (old new : Ends K) (refusal : SendFault) → new.streams.prints ≡ old.streams.prints
    → (failed refusal ≢ Err refusals.Read → new.streams.reads ≡ old.streams.reads)
    → (IsErrOf (failed refusal) refusals.Write → OneFailed old.streams.writes new.streams.writes (count old.sinks) (count new.sinks))
    → (failed refusal ≢ Err refusals.Write → NoneFailed old.streams.writes new.streams.writes (count old.sinks) (count new.sinks))
    → CausesWith {K = K} {T = Sent T} count old new (refused_by refusal)
causes_refused count old new refusals.Read same read write none =
    record {
      no_read = λ e. absurd (e refl);
      write_reported = λ e. absurd cc;
      no_write = λ e. let h = none (λ q. absurd cc) in ((h.0, same), h.1);
    }
causes_refused count old new refusals.Write same read write none =
    record {
      no_read = λ e. read (λ q. absurd cc);
      write_reported = λ e. one_failed _ _ _ _ _ _ same (write refl);
      no_write = λ e. absurd (e refl);
    }
causes_refused count old new refusals.NotWholePacket same read write none =
    record {
      no_read = λ e. read (λ q. absurd cc);
      write_reported = λ e. absurd cc;
      no_write = λ e. let h = none (λ q. absurd cc) in ((h.0, same), h.1);
    }
causes_refused count old new (refusals.NoSync packet size) same read write none =
    record {
      no_read = λ e. read (λ q. absurd cc);
      write_reported = λ e. absurd cc;
      no_write = λ e. let h = none (λ q. absurd cc) in ((h.0, same), h.1);
    }
