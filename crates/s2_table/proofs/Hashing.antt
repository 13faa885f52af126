-- A text that is hashed piece by piece.
use Rattle.std.proofs.Common.{◌≡◌, ℕ, List, [], ◌++◌, sym, ap, subst, refl, ◌∙◌, append_assoc, append-nil}
use Rattle.sha2.specs.declared.Sha256.{Sha256}
use Rattle.sha2.specs.Hashers.{Holds256}

-- what is hashed so far, behind what came before, and the text that is left
abbrev pub Hashed : Sha256 → Sha256 → List ℕ → List ℕ → Type 0
Hashed old new all rest = (front : List ℕ) × ((text : List ℕ) → Holds256 old text → Holds256 new (text ++ front)) × (all ≡ front ++ rest)

pub none_hashed : (h : Sha256) (all : List ℕ) → Hashed h h all all
none_hashed h all = ([], λ text held. subst (Holds256 h) (sym (append-nil text)) held, refl)

pub hashes_on : (old mid new : Sha256) (all rest piece more : List ℕ) → Hashed old mid all rest → ((text : List ℕ) → Holds256 mid text → Holds256 new (text ++ piece)) → rest ≡ piece ++ more → Hashed old new all more
hashes_on old mid new all rest piece more (front, before, whole) now e =
    (front ++ piece, λ text held. subst (Holds256 new) (append_assoc text front piece) (now (text ++ front) (before text held)), whole ∙ ap (λ r. front ++ r) e ∙ sym (append_assoc front piece more))

pub all_hashed : (old new : Sha256) (all rest : List ℕ) → Hashed old new all rest → rest ≡ [] → (text : List ℕ) → Holds256 old text → Holds256 new (text ++ all)
all_hashed old new all rest (front, before, whole) e text held =
    subst (λ it. Holds256 new (text ++ it)) (sym (whole ∙ ap (λ r. front ++ r) e ∙ append-nil front)) (before text held)
