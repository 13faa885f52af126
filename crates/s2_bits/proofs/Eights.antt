-- Eight bits more.
use Rattle.std.proofs.Common.{◌≡◌, ℕ, ◌+◌, ◌<◌, ◌≤◌, List, [], ◌∷◌, ◌++◌, length, take, set, refl, ap, ◌∙◌, arith, length-set, append_assoc}
use Rattle.std.proofs.lemmas.List.{take_more_set}

module _ {X : Type 0} where
  one_more : (m n : ℕ) (xs front : List X) (x : X) → m ≡ n + 1 → n < length xs → take n xs ≡ front → take m (set xs n x) ≡ front ++ x ∷ []
  one_more m n xs front x e lt is = ap (λ k. take k (set xs n x)) e ∙ take_more_set xs n x lt ∙ ap (λ l. l ++ x ∷ []) is

  pub eight_more : (n : ℕ) (xs front : List X) (a b c d e f g h : X) → n + 8 ≤ length xs → take n xs ≡ front
      → take (n + 8) (set (set (set (set (set (set (set (set xs n a) (n + 1) b) (n + 2) c) (n + 3) d) (n + 4) e) (n + 5) f) (n + 6) g) (n + 7) h)
      ≡ front ++ (a ∷ b ∷ c ∷ d ∷ e ∷ f ∷ g ∷ h ∷ [])
  eight_more n xs front a b c d e f g h room is =
      let x1 = set xs n a in let l1 : length x1 ≡ length xs = length-set xs n a in
      let x2 = set x1 (n + 1) b in let l2 : length x2 ≡ length x1 = length-set x1 (n + 1) b in
      let x3 = set x2 (n + 2) c in let l3 : length x3 ≡ length x2 = length-set x2 (n + 2) c in
      let x4 = set x3 (n + 3) d in let l4 : length x4 ≡ length x3 = length-set x3 (n + 3) d in
      let x5 = set x4 (n + 4) e in let l5 : length x5 ≡ length x4 = length-set x4 (n + 4) e in
      let x6 = set x5 (n + 5) f in let l6 : length x6 ≡ length x5 = length-set x5 (n + 5) f in
      let x7 = set x6 (n + 6) g in let l7 : length x7 ≡ length x6 = length-set x6 (n + 6) g in
      let t1 = one_more (n + 1) n xs front a refl (omega arith) is in
      let t2 = one_more (n + 2) (n + 1) x1 _ b (omega arith) (omega arith) t1 in
      let t3 = one_more (n + 3) (n + 2) x2 _ c (omega arith) (omega arith) t2 in
      let t4 = one_more (n + 4) (n + 3) x3 _ d (omega arith) (omega arith) t3 in
      let t5 = one_more (n + 5) (n + 4) x4 _ e (omega arith) (omega arith) t4 in
      let t6 = one_more (n + 6) (n + 5) x5 _ f (omega arith) (omega arith) t5 in
      let t7 = one_more (n + 7) (n + 6) x6 _ g (omega arith) (omega arith) t6 in
      let t8 = one_more (n + 8) (n + 7) x7 _ h (omega arith) (omega arith) t7 in
      t8 ∙ simp append_assoc
