-- A note that is written piece by piece.
use Rattle.std.proofs.Common.{ℕ, List, ◌++◌, Option, Result, Ok, Err, OnOk}
use Rattle.std.specs.Io.KnownBytes.{Appends}
use Rattle.std.proofs.KnownBytes.{Appends-trans}

pub note_written : {T E : Type 0} → (ended : Result T E) (a b c d : Option (List ℕ)) (front words last : List ℕ)
    → Appends a b front → Appends b c words → OnOk ended (Appends c d last) → OnOk ended (Appends a d (front ++ (words ++ last)))
note_written (Ok x) a b c d front words last p q r = Appends-trans a b d front (words ++ last) p (Appends-trans b c d words last q r)
note_written (Err e) a b c d front words last p q r = tt
