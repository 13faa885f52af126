-- A run of a receiver, from its beginning, and from the streams before its output was begun.
use Rattle.s2_commands.proofs.Names.{◌≡◌, ℕ, List, Option, Result, Err, refl, subst, Streams, StreamFault, Rules, State, begun, Taking, RunAnswersWith, Received, Fault, Ends, ends_of, ReceivesToEnd}

-- streams whose output has these contents and this count
pub same_streams : (s : Streams) (given : Option (List ℕ)) (writes : ℕ) → given ≡ s.given → writes ≡ s.writes → record s { given = given; writes = writes } ≡ s
same_streams s given writes contents count = rw (contents, count) refl

-- what is received between these streams
pub received_from : {K : Type 0} (takes fails : Taking K) (rules : Rules) (sinks : K) (first before : Streams) (new : Ends K) (ended : Result Received Fault) → first ≡ before
    → ReceivesToEnd takes fails rules (ends_of first sinks) new ended → ReceivesToEnd takes fails rules (ends_of before sinks) new ended
received_from takes fails rules sinks first before new ended same h = subst (λ s. ReceivesToEnd takes fails rules (ends_of s sinks) new ended) same h

-- a run from its beginning
pub run_from : {K : Type 0} (takes fails : Taking K) (rules : Rules) (start state : State) (old new : K) (before behind : Streams) (answer : Result Received StreamFault) → start ≡ begun
    → RunAnswersWith takes fails rules start state old new before behind answer → RunAnswersWith takes fails rules begun state old new before behind answer
run_from takes fails rules start state old new before behind answer started h = subst (λ s. RunAnswersWith takes fails rules s state old new before behind answer) started h

-- the same, if the run failed by this fault
pub failed_from : {K : Type 0} (takes fails : Taking K) (rules : Rules) (start state : State) (old new : K) (before behind : Streams) (fault told : StreamFault) → fault ≡ told → start ≡ begun
    → RunAnswersWith takes fails rules start state old new before behind (Err fault) → RunAnswersWith takes fails rules begun state old new before behind (Err told)
failed_from takes fails rules start state old new before behind fault told is started h =
    subst (λ f. RunAnswersWith takes fails rules begun state old new before behind (Err f)) is (run_from takes fails rules start state old new before behind (Err fault) started h)
