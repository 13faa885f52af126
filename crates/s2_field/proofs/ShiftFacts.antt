-- Folding back is additive, so a shifted number is reduced as by steps of `x`: it is enough at the powers of two.
use Rattle.std.specs.Prelude.{ℕ, zero, suc, ◌≡◌, ◌+◌, ◌-◌, ◌*◌, ◌/◌, ◌%◌, ◌^◌, ◌<◌, ◌≤◌, bit_xor, refl, Bool, true, ◌&&◌}
use Rattle.std.proofs.Common.{sym, ◌∙◌, ap, ap₂, subst, arith, add-zero, inl, inr}
use lib.Pow.{pow_pos}
use Rattle.std.proofs.lemmas.Bool.{and_parts, cases_lt}
use Rattle.std.proofs.lemmas.Nat.{xor_shr, xor_mod, xor_block}
use Rattle.s2_field.specs.Binary.{times_x, swap_inner, times_x-xor, times_x-below}
use Rattle.s2_field.specs.Inverse.{agree_at_powers, same_additive}
use Rattle.s2_field.specs.Order.{iterate}
use Rattle.s2_field.specs.Shifts.{folded_16, folded_14}

abbrev IsAdditive : (ℕ → ℕ) → Type 0
IsAdditive f = (a b : ℕ) → f (bit_xor a b) ≡ bit_xor (f a) (f b)

same-kept : IsAdditive (λ a. a)
same-kept a b = refl

sum-kept : (f g : ℕ → ℕ) → IsAdditive f → IsAdditive g → IsAdditive (λ a. bit_xor (f a) (g a))
sum-kept f g hf hg a b = ap₂ bit_xor (hf a b) (hg a b) ∙ swap_inner (f a) (f b) (g a) (g b)

then-kept : (f g : ℕ → ℕ) → IsAdditive f → IsAdditive g → IsAdditive (λ a. g (f a))
then-kept f g hf hg a b = ap g (hf a b) ∙ hg (f a) (f b)

up-kept : (k n : ℕ) → IsAdditive (λ a. a * 2 ^ k % 2 ^ n)
up-kept k n a b =
    ap (λ x. x % 2 ^ n)
    (sym (ap₂ bit_xor (sym (add-zero (a * 2 ^ k))) (sym (add-zero (b * 2 ^ k)))
    ∙ xor_block k a b 0 0 (pow_pos k) (pow_pos k) ∙ add-zero (bit_xor a b * 2 ^ k)))
    ∙ xor_mod (a * 2 ^ k) (b * 2 ^ k) n

down-kept : (k : ℕ) → IsAdditive (λ a. a / 2 ^ k)
down-kept k a b = xor_shr a b k

cut-kept : (n : ℕ) → IsAdditive (λ a. a % 2 ^ n)
cut-kept n a b = xor_mod a b n

folded-16-kept : IsAdditive folded_16
folded-16-kept =
    sum-kept _ (λ h. h * 32 % 65536)
    (sum-kept _ (λ h. h * 8 % 65536) (sum-kept (λ h. h) (λ h. h * 4 % 65536) same-kept (up-kept 2 16)) (up-kept 3 16))
    (up-kept 5 16)

folded-14-kept : IsAdditive folded_14
folded-14-kept =
    sum-kept _ (λ h. h * 32 % 65536)
    (sum-kept _ (λ h. h * 8 % 65536) (sum-kept (λ h. h) (λ h. h * 2 % 65536) same-kept (up-kept 1 16)) (up-kept 3 16))
    (up-kept 5 16)

iterate-kept : (m low n : ℕ) → IsAdditive (iterate m low n)
iterate-kept m low zero a b = refl
iterate-kept m low (suc n) a b = ap (iterate m low n) (times_x-xor m low a b) ∙ iterate-kept m low n (times_x m low a) (times_x m low b)

-- ---- the two fields

abbrev shifted_16 : ℕ → ℕ → ℕ
shifted_16 e a = bit_xor (a * 2 ^ e % 65536) (folded_16 (a / 2 ^ (15 - e) / 2))

abbrev shifted_14 : ℕ → ℕ → ℕ
shifted_14 e a = bit_xor (a * 2 ^ e % 65536 % 16384) (folded_14 (a / 2 ^ (14 - e)))

shifted-16-kept : (e : ℕ) → IsAdditive (shifted_16 e)
shifted-16-kept e =
    sum-kept (λ a. a * 2 ^ e % 65536) (λ a. folded_16 (a / 2 ^ (15 - e) / 2)) (up-kept e 16)
    (then-kept (λ a. a / 2 ^ (15 - e) / 2) folded_16 (then-kept (λ a. a / 2 ^ (15 - e)) (λ h. h / 2) (down-kept (15 - e)) (down-kept 1)) folded-16-kept)

shifted-14-kept : (e : ℕ) → IsAdditive (shifted_14 e)
shifted-14-kept e =
    sum-kept (λ a. a * 2 ^ e % 65536 % 16384) (λ a. folded_14 (a / 2 ^ (14 - e)))
    (then-kept (λ a. a * 2 ^ e % 65536) (λ w. w % 16384) (up-kept e 16) (cut-kept 14))
    (then-kept (λ a. a / 2 ^ (14 - e)) folded_14 (down-kept (14 - e)) folded-14-kept)

-- two families agree at the powers of two, up to a member
abbrev agree_upto : ℕ → (ℕ → ℕ → ℕ) → (ℕ → ℕ → ℕ) → ℕ → Bool
agree_upto m f g zero = agree_at_powers m (f 0) (g 0)
agree_upto m f g (suc n) = agree_at_powers m (f (suc n)) (g (suc n)) && agree_upto m f g n

member : (m : ℕ) (f g : ℕ → ℕ → ℕ) (n e : ℕ) → agree_upto m f g n ≡ true → e ≤ n → agree_at_powers m (f e) (g e) ≡ true
member m f g zero zero h le = h
member m f g zero (suc e) h le = absurd (omega arith)
member m f g (suc n) e h le =
    elim (cases_lt n e) [
      | inl above ↦ let same : suc n ≡ e = omega arith in subst (λ k. agree_at_powers m (f k) (g k) ≡ true) same (and_parts _ _ h).0
      | inr below ↦ member m f g n e (and_parts _ _ h).1 below
    ]

all-16 : agree_upto 16 shifted_16 (iterate 16 45) 11 ≡ true
all-16 = refl

all-14 : agree_upto 14 shifted_14 (iterate 14 43) 9 ≡ true
all-14 = refl

-- the shifted number, folded
pub shifted-16 : (e a : ℕ) → e ≤ 11 → a < 2 ^ 16 → shifted_16 e a ≡ iterate 16 45 e a
shifted-16 e a he ha =
    same_additive 16 (shifted_16 e) (iterate 16 45 e) (λ a b _ _. shifted-16-kept e a b) (λ a b _ _. iterate-kept 16 45 e a b)
    (member 16 shifted_16 (iterate 16 45) 11 e all-16 he) a ha

pub shifted-14 : (e a : ℕ) → e ≤ 9 → a < 2 ^ 14 → shifted_14 e a ≡ iterate 14 43 e a
shifted-14 e a he ha =
    same_additive 14 (shifted_14 e) (iterate 14 43 e) (λ a b _ _. shifted-14-kept e a b) (λ a b _ _. iterate-kept 14 43 e a b)
    (member 14 shifted_14 (iterate 14 43) 9 e all-14 he) a ha

-- n steps and then k more
pub iterate-then : (m low n k v : ℕ) → iterate m low k (iterate m low n v) ≡ iterate m low (n + k) v
iterate-then m low zero k v = let e : k ≡ 0 + k = omega arith in ap (λ i. iterate m low i v) e
iterate-then m low (suc n) k v =
    let e : suc (n + k) ≡ suc n + k = omega arith in
    iterate-then m low n k (times_x m low v) ∙ ap (λ i. iterate m low i v) e

pub iterate-14-below : (n v : ℕ) → v < 2 ^ 14 → iterate 14 43 n v < 2 ^ 14
iterate-14-below zero v h = h
iterate-14-below (suc n) v h = iterate-14-below n (times_x 14 43 v) (times_x-below 14 43 (omega arith) (omega arith) v)
