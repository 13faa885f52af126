-- Windows that are near no header, told by their lowest 64 bits.
use Rattle.std.proofs.Common.{◌≡◌, ℕ, zero, suc, ◌+◌, ◌-◌, ◌*◌, ◌/◌, ◌%◌, ◌^◌, ◌<◌, ◌≤◌, Bool, true, false, bit_xor, count_ones, min, refl, sym, ap, ap₂, subst, ◌∙◌, arith}
use Rattle.std.specs.Prelude.{◌&&◌, nat_lt, ltb}
use Rattle.std.specs.Int.{bit_at as digit}
use Rattle.std.specs.Int.Count.{ones, ones_in, ones_step}
use Rattle.std.proofs.lemmas.Bool.{ltb-true}
use Rattle.std.proofs.lemmas.Nat.{ones-le, ones_cat, xor_mod, xor_shr, xor_comm}
use lib.Bits.{xor_assoc, xor_self, xor_zero_l, xor_zero_r}
use Rattle.std.proofs.lemmas.Nat.Bits.{bit_at_lowest, bit_at_xor}
use Rattle.s2_plframe.specs.Inside.{AreApart, IsFar, is_between, is_far, wrong_in, wrong_in_dummy}

last_digit : (n : ℕ) → digit n 0 ≡ n % 2
last_digit n = bit_at_lowest n

-- the ones of a sum without carries are no more than those of both
lowest : (a b : ℕ) → bit_xor a b % 2 ≤ a % 2 + b % 2
lowest a b =
    let x : digit (bit_xor a b) 0 ≡ (digit a 0 + digit b 0) % 2 = bit_at_xor a b 0 in
    let e = last_digit (bit_xor a b) in
    let f = last_digit a in
    let g = last_digit b in
    omega (arith, x, e, f, g)

triangle_in : (d a b : ℕ) → a ≤ d → b ≤ d → count_ones (bit_xor a b) ≤ count_ones a + count_ones b
triangle_in zero a b few_a few_b =
    let none : a ≡ 0 = omega arith in
    let nothing : b ≡ 0 = omega arith in
    rw (none, nothing) (omega arith)
triangle_in (suc d) a b few_a few_b =
    let half : bit_xor a b / 2 ≡ bit_xor (a / 2) (b / 2) = xor_shr a b 1 in
    let more = triangle_in d (a / 2) (b / 2) (omega arith) (omega arith) in
    let last = lowest a b in
    let s : count_ones (bit_xor a b) ≡ bit_xor a b % 2 + count_ones (bit_xor (a / 2) (b / 2)) = ones_step (bit_xor a b) ∙ ap (λ n. bit_xor a b % 2 + count_ones n) half in
    omega (arith, s, ones_step a, ones_step b, more, last)

triangle : (a b : ℕ) → count_ones (bit_xor a b) ≤ count_ones a + count_ones b
triangle a b = triangle_in (a + b) a b (omega arith) (omega arith)

-- the lowest bits have no more ones than all
low_ones : (n : ℕ) → count_ones (n % 2 ^ 64) ≤ count_ones n
low_ones n =
    let small : n % 2 ^ 64 < 2 ^ 64 = omega arith in
    let parts : n / 18446744073709551616 * 18446744073709551616 + n % 18446744073709551616 ≡ n = omega arith in
    let both : count_ones (n / 2 ^ 64 * 2 ^ 64 + n % 2 ^ 64) ≡ count_ones (n / 2 ^ 64) + count_ones (n % 2 ^ 64) = ones_cat 64 (n / 2 ^ 64) (n % 2 ^ 64) small in
    omega (arith, both, ap count_ones parts)

-- what two sums share falls out
cancel : (a b x : ℕ) → bit_xor (bit_xor a x) (bit_xor b x) ≡ bit_xor a b
cancel a b x =
    ap (bit_xor (bit_xor a x)) (xor_comm b x) ∙ sym (xor_assoc (bit_xor a x) x b)
    ∙ ap (λ n. bit_xor n b) (xor_assoc a x x ∙ ap (bit_xor a) (xor_self x) ∙ xor_zero_r a)

-- a sum undone
undone : (a k : ℕ) → bit_xor a (bit_xor a k) ≡ k
undone a k = sym (xor_assoc a a k) ∙ ap (λ n. bit_xor n k) (xor_self a) ∙ xor_zero_l k

between : (a b x : ℕ) → count_ones (bit_xor a b) ≤ count_ones (bit_xor a x) + count_ones (bit_xor b x)
between a b x = let t = triangle (bit_xor a x) (bit_xor b x) in omega (arith, t, ap count_ones (cancel a b x))

low_wrong : (h w : ℕ) → count_ones (bit_xor (h % 2 ^ 64) (w % 2 ^ 64)) ≤ wrong_in h w
low_wrong h w = let l = low_ones (bit_xor h w) in omega (arith, l, ap count_ones (xor_mod h w 64))

-- what the test of one header tells
parts : (apart n : ℕ) → is_between apart n ≡ true → (12 < n) × (n + 12 < apart)
parts apart n e = let two = both (ltb 12 n) (ltb (n + 12) apart) e in (ltb-true 12 n two.0, ltb-true (n + 12) apart two.1)
  where
    both : (a b : Bool) → (a && b) ≡ true → (a ≡ true) × (b ≡ true)
    both true b e = (refl, e)
    both false b e = absurd (cc)

all_parts : (a b c : Bool) → (a && (b && c)) ≡ true → (a ≡ true) × (b ≡ true) × (c ≡ true)
all_parts true true c e = (refl, refl, e)
all_parts true false c e = absurd (cc)
all_parts false b c e = absurd (cc)

-- far by the lowest bits is far
far_by : (coded d0 d1 d2 d3 w : ℕ) → 12 < count_ones (bit_xor (coded % 2 ^ 64) (w % 2 ^ 64)) → 12 < count_ones (bit_xor (d0 % 2 ^ 64) (w % 2 ^ 64)) → 12 < count_ones (bit_xor (d1 % 2 ^ 64) (w % 2 ^ 64))
    → 12 < count_ones (bit_xor (d2 % 2 ^ 64) (w % 2 ^ 64)) → 12 < count_ones (bit_xor (d3 % 2 ^ 64) (w % 2 ^ 64)) → IsFar coded d0 d1 d2 d3 w
far_by coded d0 d1 d2 d3 w c a b e f =
    (omega (arith, c, low_wrong coded w), omega (arith, a, b, e, f, low_wrong d0 w, low_wrong d1 w, low_wrong d2 w, low_wrong d3 w))

-- the complement of a window from the complement of a header is the window from the header
other : (a b x k y : ℕ) → k ≡ bit_xor a b → bit_xor x k ≡ y → bit_xor b y ≡ bit_xor a x
other a b x k y k_is y_is =
    let b_is : bit_xor a k ≡ b = ap (bit_xor a) k_is ∙ undone a b in
    sym (λ i. bit_xor (b_is i) (y_is i)) ∙ cancel a x k

module _ (coded d0 d1 d2 d3 opposite apart : ℕ) (are : AreApart d0 d1 d2 d3 opposite apart) where
  -- a window that passes the test, and one whose lowest bits are the same or the complement
  module _ (w : ℕ) (passes : is_far apart (coded % 2 ^ 64) (d0 % 2 ^ 64) (d1 % 2 ^ 64) (w % 2 ^ 64) ≡ true) where
    three : ((12 < count_ones (bit_xor (coded % 2 ^ 64) (w % 2 ^ 64))) × (count_ones (bit_xor (coded % 2 ^ 64) (w % 2 ^ 64)) + 12 < apart))
        × ((12 < count_ones (bit_xor (d0 % 2 ^ 64) (w % 2 ^ 64))) × (count_ones (bit_xor (d0 % 2 ^ 64) (w % 2 ^ 64)) + 12 < apart))
        × ((12 < count_ones (bit_xor (d1 % 2 ^ 64) (w % 2 ^ 64))) × (count_ones (bit_xor (d1 % 2 ^ 64) (w % 2 ^ 64)) + 12 < apart))
    three =
        let all = all_parts (is_between apart (wrong_in (coded % 2 ^ 64) (w % 2 ^ 64))) (is_between apart (wrong_in (d0 % 2 ^ 64) (w % 2 ^ 64))) (is_between apart (wrong_in (d1 % 2 ^ 64) (w % 2 ^ 64))) passes in
        (parts apart (wrong_in (coded % 2 ^ 64) (w % 2 ^ 64)) all.0, parts apart (wrong_in (d0 % 2 ^ 64) (w % 2 ^ 64)) all.1, parts apart (wrong_in (d1 % 2 ^ 64) (w % 2 ^ 64)) all.2)

    pub far_itself : IsFar coded d0 d1 d2 d3 w
    far_itself =
        let (c, a, b) = three in
        let some : 0 < apart = omega (arith, c.1) in
        let (first, second, count) = are some in
        let k_0 : opposite ≡ bit_xor (d0 % 2 ^ 64) (d2 % 2 ^ 64) = first ∙ xor_mod d0 d2 64 in
        let k_1 : opposite ≡ bit_xor (d1 % 2 ^ 64) (d3 % 2 ^ 64) = second ∙ xor_mod d1 d3 64 in
        let e_2 = between (d0 % 2 ^ 64) (d2 % 2 ^ 64) (w % 2 ^ 64) in
        let e_3 = between (d1 % 2 ^ 64) (d3 % 2 ^ 64) (w % 2 ^ 64) in
        let c_0 : apart ≡ count_ones (bit_xor (d0 % 2 ^ 64) (d2 % 2 ^ 64)) = count ∙ ap count_ones k_0 in
        let c_1 : apart ≡ count_ones (bit_xor (d1 % 2 ^ 64) (d3 % 2 ^ 64)) = count ∙ ap count_ones k_1 in
        let f_2 : 12 < count_ones (bit_xor (d2 % 2 ^ 64) (w % 2 ^ 64)) = omega (arith, a.1, c_0, e_2) in
        let f_3 : 12 < count_ones (bit_xor (d3 % 2 ^ 64) (w % 2 ^ 64)) = omega (arith, b.1, c_1, e_3) in
        far_by coded d0 d1 d2 d3 w c.0 a.0 b.0 f_2 f_3

    pub far_opposite : (u : ℕ) → bit_xor (w % 2 ^ 64) opposite ≡ u % 2 ^ 64 → IsFar coded d0 d1 d2 d3 u
    far_opposite u is =
        let (c, a, b) = three in
        let x = w % 2 ^ 64 in
        let y = u % 2 ^ 64 in
        let some : 0 < apart = omega (arith, c.1) in
        let (first, second, count) = are some in
        let k_0 : opposite ≡ bit_xor (d0 % 2 ^ 64) (d2 % 2 ^ 64) = first ∙ xor_mod d0 d2 64 in
        let k_1 : opposite ≡ bit_xor (d1 % 2 ^ 64) (d3 % 2 ^ 64) = second ∙ xor_mod d1 d3 64 in
        let k : bit_xor x y ≡ opposite = ap (bit_xor x) (sym is) ∙ undone x opposite in
        let many : apart ≡ count_ones (bit_xor x y) = count ∙ ap count_ones (sym k) in
        let swap = λ (h : ℕ). ap₂ (λ (m : ℕ) (n : ℕ). m + n) (ap count_ones (xor_comm x h)) (ap count_ones (xor_comm y h)) in
        let e_c = between x y (coded % 2 ^ 64) in
        let e_0 = between x y (d0 % 2 ^ 64) in
        let e_1 = between x y (d1 % 2 ^ 64) in
        let f_c : 12 < count_ones (bit_xor (coded % 2 ^ 64) y) = omega (arith, c.1, many, e_c, swap (coded % 2 ^ 64), ap count_ones (xor_comm x (coded % 2 ^ 64))) in
        let f_0 : 12 < count_ones (bit_xor (d0 % 2 ^ 64) y) = omega (arith, a.1, many, e_0, swap (d0 % 2 ^ 64), ap count_ones (xor_comm x (d0 % 2 ^ 64))) in
        let f_1 : 12 < count_ones (bit_xor (d1 % 2 ^ 64) y) = omega (arith, b.1, many, e_1, swap (d1 % 2 ^ 64), ap count_ones (xor_comm x (d1 % 2 ^ 64))) in
        let f_2 : 12 < count_ones (bit_xor (d2 % 2 ^ 64) y) = subst (λ n. 12 < count_ones n) (sym (other (d0 % 2 ^ 64) (d2 % 2 ^ 64) x opposite y k_0 is)) a.0 in
        let f_3 : 12 < count_ones (bit_xor (d3 % 2 ^ 64) y) = subst (λ n. 12 < count_ones n) (sym (other (d1 % 2 ^ 64) (d3 % 2 ^ 64) x opposite y k_1 is)) b.0 in
        far_by coded d0 d1 d2 d3 u f_c f_0 f_1 f_2 f_3
