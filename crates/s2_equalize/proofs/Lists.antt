-- Lists of numbers, place by place.
use Rattle.std.proofs.Common.{◌≡◌, ℕ, suc, ◌<◌, List, [], ◌∷◌, length, map, refl, ap₂, arith}
use Rattle.s2_equalize.specs.declared.complex.Complex.{Complex}
use Rattle.s2_equalize.specs.Complex.{complex_at}

-- a list that has f of each number of another
pub map_by_all : (f : Complex → Complex) (xs ys : List Complex) → length ys ≡ length xs → ((k : ℕ) → k < length xs → complex_at ys k ≡ f (complex_at xs k)) → ys ≡ map f xs
map_by_all f [] [] long each = refl
map_by_all f [] (y ∷ ys) long each = absurd (omega arith)
map_by_all f (x ∷ xs) [] long each = absurd (omega arith)
map_by_all f (x ∷ xs) (y ∷ ys) long each =
    let rest : length ys ≡ length xs = omega arith in
    ap₂ ◌∷◌ (each 0 (omega arith)) (map_by_all f xs ys rest (λ k lt. each (suc k) (omega (arith, lt))))
