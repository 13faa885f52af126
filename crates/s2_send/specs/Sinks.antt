-- What a sink does with the codewords that a transmitter sends (own).
use Rattle.std.specs.Prelude.{◌≡◌, ℕ, ◌⊎◌, Bool, List, [], ◌∷◌, Option, Some, None, Result, Ok, Err}
use Rattle.s2_mode.specs.Pieces.{AppendsPart}
use Rattle.s2_mode.specs.Streams.{NoneFailed, OneFailed}

-- ---- sinks

-- what a call does to a sink: from one value to another, by the codeword of a frame
abbrev pub Taking : Type 0 → Type 1
Taking S = (old new : S) → (codeword : List Bool) → Type 0

-- a pair of sinks: the first takes the codeword, and then the second
abbrev pub BothTake : {A B : Type 0} → Taking A → Taking B → Taking (A × B)
BothTake first second old new codeword = first old.0 new.0 codeword × second old.1 new.1 codeword

-- the first fails, and the second is unchanged; or the first takes the codeword, and the second fails
abbrev pub OneFails : {A B : Type 0} → (takes fails : Taking A) → Taking B → Taking (A × B)
OneFails takes fails second old new codeword =
    (fails old.0 new.0 codeword × (new.1 ≡ old.1)) ⊎ (takes old.0 new.0 codeword × second old.1 new.1 codeword)

-- an optional sink that takes the codeword; without a sink nothing happens
abbrev pub WantedTakes : {A : Type 0} → Taking A → Taking (Option A)
WantedTakes takes None new codeword = new ≡ None
WantedTakes takes (Some old) None codeword = ⊥
WantedTakes takes (Some old) (Some new) codeword = takes old new codeword

-- an optional sink that fails; without a sink nothing can fail
abbrev pub WantedFails : {A : Type 0} → Taking A → Taking (Option A)
WantedFails fails (Some old) (Some new) codeword = fails old new codeword
WantedFails fails old new codeword = ⊥

-- its count of failed calls, 0 without a sink
abbrev pub wanted_count : {A : Type 0} → (A → ℕ) → Option A → ℕ
wanted_count count None = 0
wanted_count count (Some sink) = count sink

-- ---- codewords and bytes

-- a sink took these codewords, one after another
abbrev pub TakesCodewords : {S : Type 0} → Taking S → (old new : S) → List (List Bool) → Type 0
TakesCodewords takes old new [] = new ≡ old
TakesCodewords {S} takes old new (first ∷ later) = (mid : S) × takes old mid first × TakesCodewords takes mid new later

-- A sink took the codeword, and then a part of these bytes was written: a write failed. Or the sink failed to take the
-- codeword, and nothing was written
abbrev pub TakesOrFails : {S : Type 0} → (takes fails : Taking S) → List Bool → List ℕ → (sink_old sink_new : S) → (old new : Option (List ℕ)) → Type 0
TakesOrFails takes fails codeword bytes sink_old sink_new old new =
    (takes sink_old sink_new codeword × AppendsPart bytes old new) ⊎ (fails sink_old sink_new codeword × (new ≡ old))

-- by the counts of failed calls of a writer and of a sink: after `Ok` none failed, else one failed, once
abbrev pub CountsEither : {T E : Type 0} → (writes_old writes_new takes_old takes_new : ℕ) → Result T E → Type 0
CountsEither writes_old writes_new takes_old takes_new (Ok done) = NoneFailed writes_old writes_new takes_old takes_new
CountsEither writes_old writes_new takes_old takes_new (Err fault) = OneFailed writes_old writes_new takes_old takes_new
