-- Reading one by one: all of it, or the first fault (own).
use Rattle.std.specs.Prelude.{◌≡◌, List, ◌∷◌, ◌++◌, Result, Ok, Err}

-- one in front of those that follow
abbrev pub ok_cons : {T E : Type 0} → Result T E → Result (List T) E → Result (List T) E
ok_cons (Err e) read = Err e
ok_cons (Ok v) (Err e) = Err e
ok_cons (Ok v) (Ok vs) = Ok (v ∷ vs)

-- the items read before, in front of those that are read
abbrev pub after : {T E : Type 0} → List T → Result (List T) E → Result (List T) E
after front (Ok vs) = Ok (front ++ vs)
after front (Err e) = Err e

-- the reading after a part of a text: the rest, or the fault
abbrev pub GoesOn : {U T E : Type 0} → Result U E → Result (List T) E → Result (List T) E → Type 0
GoesOn (Ok v) before rest = before ≡ rest
GoesOn (Err e) before rest = before ≡ Err e
