-- Texts that are put together piece by piece, if memory is not refused.
use Rattle.std.proofs.Common.{◌≡◌, ℕ, List, ◌++◌, Result, Ok, Err, OnOk, append_assoc, ap, ◌∙◌}

pub pieces_3 : {T E : Type 0} (r : Result T E) (o a b new y x w : List ℕ) → a ≡ o ++ y → b ≡ a ++ x → OnOk r (new ≡ b ++ w) → OnOk r (new ≡ o ++ (y ++ (x ++ w)))
pieces_3 (Ok v) o a b new y x w p q is = is ∙ (ap (λ l. l ++ w) (q ∙ ap (λ l. l ++ x) p) ∙ (append_assoc (o ++ y) x w ∙ append_assoc o y (x ++ w)))
pieces_3 (Err e) o a b new y x w p q is = tt

pub pieces_4 : {T E : Type 0} (r : Result T E) (o a b d new z y x w : List ℕ) → a ≡ o ++ z → b ≡ a ++ y → d ≡ b ++ x → OnOk r (new ≡ d ++ w) → OnOk r (new ≡ o ++ (z ++ (y ++ (x ++ w))))
pieces_4 (Ok v) o a b d new z y x w p q s is =
    is ∙ (ap (λ l. l ++ w) (s ∙ ap (λ l. l ++ x) (q ∙ ap (λ l. l ++ y) p)) ∙ (append_assoc ((o ++ z) ++ y) x w ∙ (append_assoc (o ++ z) y (x ++ w) ∙ append_assoc o z (y ++ (x ++ w)))))
pieces_4 (Err e) o a b d new z y x w p q s is = tt

pub moved : {T E : Type 0} (r : Result T E) (new a b x y : List ℕ) → a ≡ b → x ≡ y → OnOk r (new ≡ a ++ x) → OnOk r (new ≡ b ++ y)
moved (Ok v) new a b x y p q is = is ∙ (λ t. p t ++ q t)
moved (Err e) new a b x y p q is = tt
