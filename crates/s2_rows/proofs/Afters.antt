-- What is read behind what was read.
use Rattle.std.proofs.Common.{◌≡◌, List, [], ◌∷◌, ◌++◌, map, Result, Ok, Err, refl, sym, ap, ◌∙◌, append_assoc}
use Rattle.std.proofs.lemmas.List.{map-append}
use Rattle.s2_rows.specs.Readings.{ok_cons, after}

pub after_cons : {T E : Type 0} → (front : List T) (v : T) (read : Result (List T) E) → after front (ok_cons (Ok v) read) ≡ after (front ++ v ∷ []) read
after_cons front v (Ok vs) = ap Ok (sym (append_assoc front (v ∷ []) vs))
after_cons front v (Err e) = refl

-- one element more
pub map_push : {A B : Type 0} → (f : A → B) (new old : List A) (x : A) → new ≡ old ++ x ∷ [] → map f new ≡ map f old ++ f x ∷ []
map_push f new old x e = ap (map f) e ∙ map-append f old (x ∷ [])
