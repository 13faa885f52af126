-- Facts about the two fields that compute (EN 302 307-1, 5.3.1).
use Rattle.std.specs.Prelude.{ℕ, ◌≡◌, ◌%◌, bit_xor, refl, true, List, [], ◌∷◌}
use Rattle.s2_field.specs.Binary.{times}
use Rattle.s2_field.specs.Inverse.{squared, choose, agree_at_powers}
use Rattle.s2_field.specs.Order.{avoids_one, iterate}

-- what undoes y^2 + y, at each power of two
abbrev pub half_list_16 : List ℕ
half_list_16 = 44234 ∷ 52186 ∷ 52184 ∷ 52720 ∷ 52188 ∷ 24622 ∷ 52728 ∷ 27678 ∷ 52172 ∷ 3636 ∷ 24590 ∷ 0 ∷ 52664 ∷ 30330 ∷ 27806 ∷ 36278 ∷ []

abbrev pub half_list_14 : List ℕ
half_list_14 = 8648 ∷ 8284 ∷ 8286 ∷ 9038 ∷ 8282 ∷ 7502 ∷ 9030 ∷ 16148 ∷ 8266 ∷ 0 ∷ 7534 ∷ 1340 ∷ 8966 ∷ 10314 ∷ []

pub frobenius_16 : agree_at_powers 16 (squared 16 45 16) (λ a. a) ≡ true
unfolding times
frobenius_16 = refl

pub frobenius_14 : agree_at_powers 14 (squared 14 43 14) (λ a. a) ≡ true
unfolding times
frobenius_14 = refl

pub kernel_16 : agree_at_powers 16 (λ a. choose half_list_16 (bit_xor (times 16 45 a a) a)) (λ a. bit_xor a (a % 2)) ≡ true
unfolding times
kernel_16 = refl

pub kernel_14 : agree_at_powers 14 (λ a. choose half_list_14 (bit_xor (times 14 43 a a) a)) (λ a. bit_xor a (a % 2)) ≡ true
unfolding times
kernel_14 = refl

pub walk_16 : avoids_one 16 45 65534 2 ≡ true
walk_16 = refl

pub last_16 : iterate 16 45 65534 2 ≡ 1
last_16 = refl

pub walk_14 : avoids_one 14 43 16382 2 ≡ true
walk_14 = refl

pub last_14 : iterate 14 43 16382 2 ≡ 1
last_14 = refl
