-- Usage errors (own).
use Rattle.std.specs.Prelude.{◌≡◌, ℕ, List, [], ◌∷◌, ◌++◌, ⊤}
use Rattle.s2_usage.specs.declared.unread.Unread.{Unread}
use Rattle.s2_usage.specs.declared.unread.Unread.TheVariants.{Asked, Fault, NoMemory}

-- a text ends with LF
abbrev pub EndsWithLf : List ℕ → Type 0
EndsWithLf text = (front : List ℕ) × (text ≡ front ++ 10 ∷ [])

-- it is a usage error, and its text ends with LF
abbrev pub IsUsageError : Unread → Type 0
IsUsageError (Fault text) = EndsWithLf text.bytes.items
IsUsageError (Asked error) = ⊥
IsUsageError NoMemory = ⊥

-- if it is a usage error, its text ends with LF
abbrev pub EndsIfFault : Unread → Type 0
EndsIfFault (Fault text) = EndsWithLf text.bytes.items
EndsIfFault (Asked error) = ⊤
EndsIfFault NoMemory = ⊤
