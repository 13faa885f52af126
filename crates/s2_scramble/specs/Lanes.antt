-- Numbers of quarters in the lanes of four symbols (own).
use Rattle.std.specs.Prelude.{ℕ, List, [], ◌∷◌}

-- each of four numbers twice: once for each component of a symbol
abbrev pub twice : ℕ → ℕ → ℕ → ℕ → List ℕ
twice k l m n = k ∷ k ∷ l ∷ l ∷ m ∷ m ∷ n ∷ n ∷ []
