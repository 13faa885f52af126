-- A comparison of lists, place by place.
use Rattle.std.proofs.Common.{◌≡◌, Bool, true, false, ◌&&◌, List, [], ◌∷◌, ◌++◌, length, refl, ap, ◌∙◌, arith}
use Rattle.std.specs.Cmp.Lexicographic.{pointwise}

and_assoc : (x y z : Bool) → (x && (y && z)) ≡ ((x && y) && z)
and_assoc true y z = refl
and_assoc false y z = refl

and_true : (x : Bool) → (x && true) ≡ x
and_true true = refl
and_true false = refl

-- with one pair more
pub one_more : {A : Type 0} (E : A → A → Bool) (xs ys : List A) (x y : A) → length xs ≡ length ys → pointwise E (xs ++ x ∷ []) (ys ++ y ∷ []) ≡ (pointwise E xs ys && E x y)
one_more E [] [] x y long = and_true (E x y)
one_more E [] (b ∷ ys) x y long = absurd (omega (arith, long))
one_more E (a ∷ xs) [] x y long = absurd (omega (arith, long))
one_more E (a ∷ xs) (b ∷ ys) x y long = ap (λ t. E a b && t) (one_more E xs ys x y (omega (arith, long))) ∙ and_assoc (E a b) (pointwise E xs ys) (E x y)
