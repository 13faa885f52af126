-- The digits of a number say it, and hold no separator.
use Rattle.std.proofs.Common.{◌≡◌, ℕ, zero, suc, ◌+◌, ◌-◌, ◌*◌, ◌/◌, ◌%◌, ◌^◌, ◌<◌, ◌≤◌, ◌==◌, Bool, true, false, List, [], ◌∷◌, ◌++◌, length, Some, None, refl, sym, ap, ◌∙◌, arith, decimal, inl, inr, length-append}
use Rattle.std.proofs.lemmas.Bool.{cond-true, cond-false, le-leb, and_from, ne_eqb, or_from, cases_Bool}
use Rattle.std.proofs.lemmas.Fmt.{decimal_by_steps}
use Rattle.s2_rows.specs.Layouts.{digits_of}
use Rattle.s2_rows.specs.Numbers.{is_digit, digits_from, natural_of}
use Rattle.s2_rows.specs.Text.{is_space, is_line_feed}

abbrev pub Digits : List ℕ → Type 0
Digits [] = Unit
Digits (b ∷ bs) = (48 ≤ b) × (b ≤ 57) × Digits bs

digits_push : (ds : List ℕ) (d : ℕ) → d < 10 → Digits ds → Digits (ds ++ (48 + d) ∷ [])
digits_push [] d h all = (omega arith, omega arith, tt)
digits_push (b ∷ ds) d h all = (all.0, all.1, digits_push ds d h all.2)

digit_is : (d : ℕ) → d < 10 → is_digit (48 + d) ≡ true
digit_is d h = and_from _ _ (le-leb 48 (48 + d) (omega arith)) (le-leb (48 + d) 57 (omega arith))

value_push : (ds : List ℕ) (m v d : ℕ) → d < 10 → digits_from m ds ≡ Some v → digits_from m (ds ++ (48 + d) ∷ []) ≡ Some (v * 10 + d)
unfolding digits_from
value_push [] m v d h e =
    let same : m ≡ v = cc in
    let digit : (48 + d) - 48 ≡ d = omega arith in
    cond-true _ _ _ (digit_is d h) ∙ ap (λ k. Some (m * 10 + k)) digit ∙ ap (λ k. Some (k * 10 + d)) same
value_push (b ∷ ds) m v d h e = elim (cases_Bool (is_digit b)) [
  | inl t ↦ cond-true (is_digit b) (digits_from (m * 10 + (b - 48)) (ds ++ (48 + d) ∷ [])) None t ∙ value_push ds (m * 10 + (b - 48)) v d h (sym (cond-true (is_digit b) (digits_from (m * 10 + (b - 48)) ds) None t) ∙ e)
  | inr t ↦ absurd (none_some v (sym (cond-false (is_digit b) (digits_from (m * 10 + (b - 48)) ds) None t) ∙ e))
]
  where
    none_some : (v : ℕ) → None ≡ Some v → ⊥
    none_some v e = cc

pub record Says (n : ℕ) (ds : List ℕ) : Type 0 where
  pub value : digits_from 0 ds ≡ Some n
  pub digits : Digits ds
  pub some : 0 < length ds

nothing_yet : (m : ℕ) → digits_from m [] ≡ Some m
unfolding digits_from
nothing_yet m = refl

one_digit : (n : ℕ) → n < 10 → Says n ((48 + n) ∷ [])
one_digit n h = record { value = value_push [] 0 0 n h (nothing_yet 0) ∙ ap Some (omega arith); digits = (omega arith, omega arith, tt); some = omega arith }

digit_more : (n : ℕ) (ds : List ℕ) → 10 ≤ n → Says (n / 10) ds → Says n (ds ++ (48 + n % 10) ∷ [])
digit_more n ds h s = record {
  value = value_push ds 0 (n / 10) (n % 10) (omega arith) s.value ∙ ap Some (omega arith);
  digits = digits_push ds (n % 10) (omega arith) s.digits;
  some = omega (arith, length-append ds ((48 + n % 10) ∷ []), s.some);
}

pub decimal_says : (n : ℕ) → n < 2 ^ 64 → Says n (decimal n)
decimal_says n h = decimal_by_steps Says one_digit digit_more n h

pub zeros_say : (zeros n : ℕ) → n < 2 ^ 64 → Says n (digits_of zeros n)
unfolding digits_from
zeros_say zero n few = decimal_says n few
zeros_say (suc zeros) n few =
    let s = zeros_say zeros n few in
    record { value = s.value; digits = (omega arith, omega arith, s.digits); some = omega arith }

pub natural_of_says : (ds : List ℕ) (n : ℕ) → Says n ds → natural_of ds ≡ Some n
natural_of_says [] n s = absurd (omega (arith, s.some))
natural_of_says (d ∷ ds) n s = s.value

pub natural_of_decimal : (n : ℕ) → n < 2 ^ 64 → natural_of (decimal n) ≡ Some n
natural_of_decimal n h = natural_of_says (decimal n) n (decimal_says n h)

-- no byte passes the test
abbrev pub Lacks : (ℕ → Bool) → List ℕ → Type 0
Lacks p [] = Unit
Lacks p (b ∷ bs) = (p b ≡ false) × Lacks p bs

pub no_space : (ds : List ℕ) → Digits ds → Lacks is_space ds
no_space [] all = tt
no_space (b ∷ ds) all =
    let a : (b == 32) ≡ false = ne_eqb b 32 (λ e. omega (arith, all.0)) in
    let t : (b == 9) ≡ false = ne_eqb b 9 (λ e. omega (arith, all.0)) in
    let r : (b == 13) ≡ false = ne_eqb b 13 (λ e. omega (arith, all.0)) in
    (or_from _ _ a (or_from _ _ t r), no_space ds all.2)

pub no_line_feed : (ds : List ℕ) → Digits ds → Lacks is_line_feed ds
no_line_feed [] all = tt
no_line_feed (b ∷ ds) all = (ne_eqb b 10 (λ e. omega (arith, all.0)), no_line_feed ds all.2)
