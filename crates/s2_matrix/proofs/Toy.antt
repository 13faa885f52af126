-- The checks of a small code, as they are written out: group 4, two groups, q 3, rows 0 4 8 and 0 1 2.
use Rattle.std.proofs.Common.{◌≡◌, ℕ, ◌%◌, ◌<◌, ◌==◌, Bool, true, List, [], ◌∷◌, map, refl, arith}
use Rattle.std.proofs.lemmas.Bool.{agree_below, agree_below_at, eqb-true}
use Rattle.s2_bits.specs.Bits.{bit_of_bytes}
use Rattle.s2_mode.specs.Shape.{shape_of}
use Rattle.s2_matrix.specs.Total.{upto}
use Rattle.s2_matrix.specs.Code.{Code, code_of, members, checks_of, first_edge, edges_at, ones_in, IsCodeword, IsOddCheck}

toy : Code
toy = code_of (record { shape = shape_of 4 2 3; rows = (0 ∷ 4 ∷ 8 ∷ []) ∷ (0 ∷ 1 ∷ 2 ∷ []) ∷ [] })

check_0 : members toy 0 ≡ 0 ∷ 4 ∷ 8 ∷ []
unfolding toy
check_0 = refl

check_1 : members toy 1 ≡ 3 ∷ 4 ∷ 8 ∷ 9 ∷ []
unfolding toy
check_1 = refl

check_2 : members toy 2 ≡ 2 ∷ 4 ∷ 9 ∷ 10 ∷ []
unfolding toy
check_2 = refl

check_3 : members toy 3 ≡ 1 ∷ 5 ∷ 10 ∷ 11 ∷ []
unfolding toy
check_3 = refl

check_4 : members toy 4 ≡ 0 ∷ 5 ∷ 11 ∷ 12 ∷ []
unfolding toy
check_4 = refl

check_5 : members toy 5 ≡ 3 ∷ 5 ∷ 12 ∷ 13 ∷ []
unfolding toy
check_5 = refl

check_6 : members toy 6 ≡ 2 ∷ 6 ∷ 13 ∷ 14 ∷ []
unfolding toy
check_6 = refl

check_7 : members toy 7 ≡ 1 ∷ 6 ∷ 14 ∷ 15 ∷ []
unfolding toy
check_7 = refl

check_8 : members toy 8 ≡ 0 ∷ 6 ∷ 15 ∷ 16 ∷ []
unfolding toy
check_8 = refl

check_9 : members toy 9 ≡ 3 ∷ 7 ∷ 16 ∷ 17 ∷ []
unfolding toy
check_9 = refl

check_10 : members toy 10 ≡ 2 ∷ 7 ∷ 17 ∷ 18 ∷ []
unfolding toy
check_10 = refl

check_11 : members toy 11 ≡ 1 ∷ 7 ∷ 18 ∷ 19 ∷ []
unfolding toy
check_11 = refl

checks_of_0 : checks_of toy 0 ≡ 0 ∷ 4 ∷ 8 ∷ []
unfolding toy
checks_of_0 = refl

edges_at_0 : edges_at toy 0 ≡ 0 ∷ 15 ∷ 31 ∷ []
unfolding toy
edges_at_0 = refl

edges : first_edge toy 12 ≡ 47
unfolding toy
edges = refl

-- ---- words

-- the first twenty bits of three bytes
abbrev word_of : ℕ → ℕ → ℕ → List Bool
word_of a b c = map (bit_of_bytes (a ∷ b ∷ c ∷ [])) (upto 20)

-- check j is even in this word
abbrev is_even : List Bool → ℕ → Bool
is_even word j = ones_in toy word j % 2 == 0

-- the checks below n, computed one by one
even_below : (word : List Bool) (n : ℕ) → agree_below (is_even word) (λ j. true) n ≡ true → (j : ℕ) → j < n → ones_in toy word j % 2 ≡ 0
even_below word n all j h = eqb-true _ 0 (agree_below_at (is_even word) (λ j. true) n j all h)

-- the word of bit 0 alone, with its parity bits 0 to 3 and 8 to 11
is_codeword : IsCodeword toy (word_of 128 240 240)
unfolding toy
is_codeword = record { long = refl; even = even_below (word_of 128 240 240) 12 refl }

-- without its last bit, check 11 is odd and all before it are even
is_odd_check : IsOddCheck toy (word_of 128 240 224) 11
unfolding toy
is_odd_check = record { within = omega arith; odd = refl; first = even_below (word_of 128 240 224) 11 refl }
