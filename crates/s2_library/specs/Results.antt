-- The numbers of results for C (own).
use Rattle.std.specs.Prelude.{ℤ, pos, negsuc, List, [], ◌∷◌, get_or, Result, Ok, Err}
use Rattle.s2_library.specs.declared.refusal.Refusal.{Refusal}
use Rattle.s2_library.specs.declared.refusal.Refusal.TheVariants as refusals

-- a refusal is a negative number: -1 to -22
abbrev pub refusal_number : Refusal → ℤ
refusal_number refusals.NoMemory = negsuc 0
refusal_number refusals.Empty = negsuc 1
refusal_number refusals.OtherKind = negsuc 2
refusal_number refusals.InUse = negsuc 3
refusal_number refusals.BadSize = negsuc 4
refusal_number refusals.BadMode = negsuc 5
refusal_number refusals.BadShape = negsuc 6
refusal_number refusals.BadRows = negsuc 7
refusal_number refusals.OtherShape = negsuc 8
refusal_number refusals.BadScrambling = negsuc 9
refusal_number refusals.BadRollOff = negsuc 10
refusal_number refusals.BadTuning = negsuc 11
refusal_number refusals.BadOption = negsuc 12
refusal_number refusals.TooMany = negsuc 13
refusal_number refusals.TooShort = negsuc 14
refusal_number refusals.NoSync = negsuc 15
refusal_number refusals.CutPacket = negsuc 16
refusal_number refusals.Closed = negsuc 17
refusal_number refusals.Full = negsuc 18
refusal_number refusals.BadSoft = negsuc 19
refusal_number refusals.BadCertificate = negsuc 20
refusal_number refusals.NoneThere = negsuc 21

-- success is 0
abbrev pub number_of : {T : Type 0} → Result T Refusal → ℤ
number_of (Ok done) = pos 0
number_of (Err refusal) = refusal_number refusal

-- the refusals, in the order of their numbers
abbrev pub all_refusals : List Refusal
all_refusals =
    refusals.NoMemory ∷ refusals.Empty ∷ refusals.OtherKind ∷ refusals.InUse ∷ refusals.BadSize ∷
    refusals.BadMode ∷ refusals.BadShape ∷ refusals.BadRows ∷ refusals.OtherShape ∷ refusals.BadScrambling ∷
    refusals.BadRollOff ∷ refusals.BadTuning ∷ refusals.BadOption ∷ refusals.TooMany ∷
    refusals.TooShort ∷ refusals.NoSync ∷ refusals.CutPacket ∷ refusals.Closed ∷ refusals.Full ∷
    refusals.BadSoft ∷ refusals.BadCertificate ∷ refusals.NoneThere ∷ []

-- the result of a number: success of 0, the refusal of a negative one
abbrev pub answer_of : ℤ → Result (Unit {0}) Refusal
answer_of (pos n) = Ok tt
answer_of (negsuc n) = Err (get_or all_refusals n refusals.NoneThere)
