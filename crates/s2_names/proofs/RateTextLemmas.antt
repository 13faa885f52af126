-- The parts of a rate's text, and its value.
use Rattle.std.proofs.Common.{◌≡◌, ◌≢◌, ℕ, zero, suc, ◌+◌, ◌-◌, ◌*◌, ◌/◌, ◌^◌, ◌<◌, ◌≤◌, ◌⊎◌, inl, inr, Bool, true, false, List, [], ◌∷◌, ◌++◌, ◌∙◌, ◌&&◌, ◌||◌, length, get_or, take, drop, ap, sym, subst, refl, arith}
use Rattle.std.specs.Prelude.{Option, Some, None, nat_le, codes, if◌then◌else◌, ◌==◌}
use Rattle.std.specs.Char.{is_ascii_digit}
use Rattle.std.specs.List.{prefix_len, list_all, AllPass}
use Rattle.std.proofs.Math.Nat.{mul_comm, mul_assoc, mul-div_cancel, one-le-pow, le-mul_of_pos_right}
use Rattle.std.proofs.lemmas.Nat.{pow-add, div-mul-add}
use Rattle.std.proofs.lemmas.Bool.{cases_Bool, cond-true, cond-false, leb-false, ne_eqb}
use Rattle.std.proofs.lemmas.List.{take-append-drop, length-drop}
use Rattle.std.proofs.lemmas.List.Sums.{list_all-from_AllPass}
use Rattle.std.proofs.lemmas.List.Elements.{All-drop}
use Rattle.s2_names.specs.RateTexts.{AreDigits, HasFraction, IsScaled, IsRateText, number_after, power_of}
use Rattle.s2_names.proofs.DigitTexts.{number_append, number_is, number_low, split_is, Split, digit_most}
use Rattle.s2_names.specs.Rates.{max_rate}

-- ---- powers of ten on both sides

cancel : (a b p : ℕ) → 0 < p → a * p ≡ b * p → a ≡ b
cancel a b p some same = sym (mul-div_cancel a some) ∙ ap (λ x. x / p) same ∙ mul-div_cancel b some

-- the order of three factors
turned : (v e k p : ℕ) → v * e * (k * p) ≡ v * p * (k * e)
turned v e k p =
    let inner : e * (k * p) ≡ p * (k * e) = sym (mul_assoc e k p) ∙ mul_comm (e * k) p ∙ ap (λ x. p * x) (mul_comm e k) in
    mul_assoc v e (k * p) ∙ ap (λ x. v * x) inner ∙ sym (mul_assoc v p (k * e))

out : (x k p : ℕ) → x * (k * p) ≡ x * p * k
out x k p = ap (λ y. x * y) (mul_comm k p) ∙ sym (mul_assoc x p k)

-- a number with `back` digits of value 0 after the point
pub scales : (v kept e b : ℕ) → v * 10 ^ e * 10 ^ (kept + b) ≡ (v * 10 ^ b + 0) * 10 ^ (kept + e)
scales v kept e b =
    let none : v * 10 ^ b ≡ v * 10 ^ b + 0 = omega arith in
    ap (λ x. v * 10 ^ e * x) (pow-add 10 kept b) ∙ turned v (10 ^ e) (10 ^ kept) (10 ^ b)
    ∙ ap (λ x. v * 10 ^ b * x) (sym (pow-add 10 kept e)) ∙ ap (λ x. x * 10 ^ (kept + e)) none

shorter : (r x kept e b : ℕ) → r * 10 ^ (kept + b) ≡ x * 10 ^ (kept + e) → r * 10 ^ b ≡ x * 10 ^ e
shorter r x kept e b same =
    let left : r * 10 ^ (kept + b) ≡ r * 10 ^ b * 10 ^ kept = ap (λ y. r * y) (pow-add 10 kept b) ∙ out r (10 ^ kept) (10 ^ b) in
    let right : x * 10 ^ (kept + e) ≡ x * 10 ^ e * 10 ^ kept = ap (λ y. x * y) (pow-add 10 kept e) ∙ out x (10 ^ kept) (10 ^ e) in
    cancel (r * 10 ^ b) (x * 10 ^ e) (10 ^ kept) (one-le-pow kept 10 (omega arith)) (sym left ∙ same ∙ right)

-- the digits that are cut off have value 0, and the others are the number
pub record Only (v back r e : ℕ) : Type 0 where
  pub none : back ≡ 0
  pub value : r ≡ v * 10 ^ e

only_by : (v back r e b : ℕ) → back < 10 ^ b → (b ≡ 0) ⊎ (e ≡ 0) → r * 10 ^ b ≡ (v * 10 ^ b + back) * 10 ^ e → Only v back r e
only_by v back r e b low (inl short) same =
    let one : 10 ^ b ≡ 1 = ap (λ k. 10 ^ k) short in
    let none : back ≡ 0 = omega (arith, low, one) in
    let here : r ≡ r * 10 ^ b = sym (ap (λ x. r * x) one ∙ (omega arith)) in
    let inner : v * 10 ^ b + back ≡ v = ap (λ x. v * x + back) one ∙ (omega (arith, none)) in
    record { none = none; value = here ∙ same ∙ ap (λ x. x * 10 ^ e) inner }
only_by v back r e b low (inr short) same =
    let one : 10 ^ e ≡ 1 = ap (λ k. 10 ^ k) short in
    let all : v * 10 ^ b + back ≡ r * 10 ^ b = sym (same ∙ ap (λ x. (v * 10 ^ b + back) * x) one ∙ (omega arith)) in
    let value : v ≡ r = sym (div-mul-add v (10 ^ b) back low) ∙ ap (λ x. x / 10 ^ b) all ∙ mul-div_cancel r (one-le-pow b 10 (omega arith)) in
    let parts : v * 10 ^ b + back ≡ v * 10 ^ b = all ∙ ap (λ x. x * 10 ^ b) (sym value) in
    let times : v * 10 ^ e ≡ v = ap (λ x. v * x) one ∙ (omega arith) in
    record { none = omega (arith, parts); value = sym (times ∙ value) }

-- ---- of a text's digits

-- the number of the digits before the place where they are cut, and of those behind it
number_cut : (whole fraction : List ℕ) (kept : ℕ)
    → number_after 0 (whole ++ fraction) ≡ number_after (number_after 0 whole) (take kept fraction) * 10 ^ length (drop kept fraction) + number_after 0 (drop kept fraction)
number_cut whole fraction kept =
    number_append 0 whole fraction
    ∙ ap (number_after (number_after 0 whole)) (sym (take-append-drop kept fraction))
    ∙ number_append (number_after 0 whole) (take kept fraction) (drop kept fraction)
    ∙ number_is (number_after (number_after 0 whole) (take kept fraction)) (drop kept fraction)

pub scaled_is : (whole fraction : List ℕ) (power kept v : ℕ) → kept ≤ length fraction → kept ≤ power → number_after 0 (drop kept fraction) ≡ 0
    → v ≡ number_after (number_after 0 whole) (take kept fraction) → IsScaled whole fraction power (v * 10 ^ (power - kept))
scaled_is whole fraction power kept v within few none is =
    let b = length (drop kept fraction) in
    let long : length fraction ≡ kept + b = omega (arith, length-drop kept fraction) in
    let high : kept + (power - kept) ≡ power = omega arith in
    let cut : v * 10 ^ b + 0 ≡ number_after 0 (whole ++ fraction) =
    sym (number_cut whole fraction kept ∙ ap (λ x. x * 10 ^ b + number_after 0 (drop kept fraction)) (sym is) ∙ ap (λ x. v * 10 ^ b + x) none) in
    ap (λ n. v * 10 ^ (power - kept) * 10 ^ n) long ∙ scales v kept (power - kept) b
    ∙ ap (λ x. x * 10 ^ (kept + (power - kept))) cut ∙ ap (λ n. number_after 0 (whole ++ fraction) * 10 ^ n) high

pub scaled_only : (whole fraction : List ℕ) (power kept r : ℕ) → kept ≤ length fraction → kept ≤ power → (length fraction ≡ kept) ⊎ (power ≡ kept)
    → AllPass is_ascii_digit fraction → IsScaled whole fraction power r
    → Only (number_after (number_after 0 whole) (take kept fraction)) (number_after 0 (drop kept fraction)) r (power - kept)
scaled_only whole fraction power kept r within few cut digits is =
    let v = number_after (number_after 0 whole) (take kept fraction) in
    let back = number_after 0 (drop kept fraction) in
    let b = length (drop kept fraction) in
    let long : length fraction ≡ kept + b = omega (arith, length-drop kept fraction) in
    let high : power ≡ kept + (power - kept) = omega arith in
    let low : back < 10 ^ b = number_low (drop kept fraction) (list_all-from_AllPass is_ascii_digit (drop kept fraction) (All-drop (λ x. is_ascii_digit x ≡ true) kept fraction digits)) in
    let either : (b ≡ 0) ⊎ (power - kept ≡ 0) = elim cut [ inl short ↦ inl (omega (arith, long, short)) | inr short ↦ inr (omega (arith, short)) ] in
    let same : r * 10 ^ (kept + b) ≡ (v * 10 ^ b + back) * 10 ^ (kept + (power - kept)) =
    ap (λ n. r * 10 ^ n) (sym long) ∙ is ∙ ap (λ x. x * 10 ^ power) (number_cut whole fraction kept) ∙ ap (λ n. (v * 10 ^ b + back) * 10 ^ n) high in
    only_by v back r (power - kept) b low either (shorter r (v * 10 ^ b + back) kept (power - kept) b same)

-- a number is at most the same with zeros after it
pub at_most_scaled : (v r e : ℕ) → r ≡ v * 10 ^ e → v ≤ r
at_most_scaled v r e is = omega (arith, is, le-mul_of_pos_right {m = 10 ^ e} v (one-le-pow e 10 (omega arith)))

-- a fraction is cut where the point goes
pub record Cut (fraction front back : List ℕ) (power kept : ℕ) : Type 0 where
  pub within : kept ≤ length fraction
  pub few : kept ≤ power
  pub most : (length fraction ≡ kept) ⊎ (power ≡ kept)
  pub front_is : front ≡ take kept fraction
  pub back_is : back ≡ drop kept fraction

pub cut_only : (whole fraction front back : List ℕ) (power kept r : ℕ) → Cut fraction front back power kept → AllPass is_ascii_digit fraction → IsScaled whole fraction power r
    → Only (number_after (number_after 0 whole) front) (number_after 0 back) r (power - kept)
cut_only whole fraction front back power kept r cut digits is =
    rw (cut.front_is, cut.back_is) (scaled_only whole fraction power kept r cut.within cut.few cut.most digits is)

pub cut_scaled : (whole fraction front back : List ℕ) (power kept v tens : ℕ) → Cut fraction front back power kept → number_after 0 back ≡ 0
    → v ≡ number_after (number_after 0 whole) front → tens ≡ 10 ^ (power - kept) → IsScaled whole fraction power (v * tens)
cut_scaled whole fraction front back power kept v tens cut none is are =
    let scaled = scaled_is whole fraction power kept v cut.within cut.few (ap (number_after 0) (sym cut.back_is) ∙ none) (is ∙ ap (number_after (number_after 0 whole)) cut.front_is) in
    subst (λ (n : ℕ). IsScaled whole fraction power (v * n)) (sym are) scaled

-- ---- numbers within the limit

pub over_limit : (n : ℕ) → None ≡ (if nat_le n max_rate then Some n else None) → max_rate < n
over_limit n none =
    elim (cases_Bool (nat_le n max_rate)) [
      | inl within ↦ let never : None ≡ Some n = none ∙ cond-true _ _ _ within in absurd (cc)
      | inr over ↦ leb-false n max_rate over
    ]

pub in_limit : (n v : ℕ) → Some v ≡ (if nat_le n max_rate then Some n else None) → v ≡ n
in_limit n v some =
    elim (cases_Bool (nat_le n max_rate)) [
      | inl within ↦ let same : Some v ≡ Some n = some ∙ cond-true _ _ _ within in cc
      | inr over ↦ let never : Some v ≡ None = some ∙ cond-false _ _ _ over in absurd (cc)
    ]

-- ---- what ends a text begins with no digit and no point

pub no_power : (first : ℕ) (rest : List ℕ) (power : ℕ) → first ≤ 57 → power_of (first ∷ rest) ≡ Some power → ⊥
no_power first [] power low has =
    let never = rw (ne_eqb first 107 (λ e. omega (arith, e, low)), ne_eqb first 75 (λ e. omega (arith, e, low)), ne_eqb first 77 (λ e. omega (arith, e, low))) at has in
    absurd (cc)
no_power first (second ∷ []) power low has =
    let never = rw (ne_eqb first 101 (λ e. omega (arith, e, low)), ne_eqb first 69 (λ e. omega (arith, e, low))) at has in
    absurd (cc)
no_power first (second ∷ third ∷ rest) power low has = absurd (cc)

no_digit : (ending : List ℕ) (power : ℕ) → power_of ending ≡ Some power → prefix_len is_ascii_digit ending ≡ 0
no_digit [] power has = refl
no_digit (first ∷ rest) power has =
    elim (cases_Bool (is_ascii_digit first)) [
      | inl digit ↦ absurd (no_power first rest power (digit_most first digit) has)
      | inr other ↦ cond-false _ _ _ other
    ]

-- nor does what follows the first digits begin with a digit
pub rest_other : (rest fraction ending : List ℕ) (power : ℕ) → HasFraction rest fraction ending → power_of ending ≡ Some power → prefix_len is_ascii_digit rest ≡ 0
rest_other rest fraction ending power (inl plain) has = ap (prefix_len is_ascii_digit) plain.0 ∙ no_digit ending power has
rest_other rest fraction ending power (inr pointed) has = ap (prefix_len is_ascii_digit) pointed.0

-- ---- one rate

-- two splittings of one text are one
pub same_split : (text a b c d : List ℕ) → text ≡ a ++ b → text ≡ c ++ d → AllPass is_ascii_digit a → AllPass is_ascii_digit c → prefix_len is_ascii_digit b ≡ 0 → prefix_len is_ascii_digit d ≡ 0
    → (a ≡ c) × (b ≡ d)
same_split text a b c d first second digits others stop end =
    let n = prefix_len is_ascii_digit text in
    let one : Split text a b n = split_is text a b n first digits stop refl in
    let two : Split text c d n = split_is text c d n second others end refl in
    (sym one.front ∙ two.front, sym one.back ∙ two.back)

same_fraction : (rest a b c d : List ℕ) (p q : ℕ) → HasFraction rest a b → HasFraction rest c d → power_of b ≡ Some p → power_of d ≡ Some q → (a ≡ c) × (b ≡ d)
same_fraction rest a b c d p q (inl plain) (inl other) hp hq = (plain.1 ∙ sym other.1, sym plain.0 ∙ other.0)
same_fraction rest a b c d p q (inl plain) (inr other) hp hq =
    absurd (no_power 46 (c ++ d) p (omega arith) (ap power_of (sym other.0 ∙ plain.0) ∙ hp))
same_fraction rest a b c d p q (inr pointed) (inl other) hp hq =
    absurd (no_power 46 (a ++ b) q (omega arith) (ap power_of (sym pointed.0 ∙ other.0) ∙ hq))
same_fraction rest a b c d p q (inr pointed) (inr other) hp hq =
    let same : a ++ b ≡ c ++ d = ap (drop 1) (sym pointed.0 ∙ other.0) in
    same_split (a ++ b) a b c d refl same pointed.1.each other.1.each (no_digit b p hp) (no_digit d q hq)

pub same_power : (a b : List ℕ) (p q : ℕ) → a ≡ b → power_of a ≡ Some p → power_of b ≡ Some q → p ≡ q
same_power a b p q same hp hq = let both : Some p ≡ Some q = sym hp ∙ ap power_of same ∙ hq in cc

pub one_rate : (text : List ℕ) (a b : ℕ) → IsRateText text a → IsRateText text b → a ≡ b
one_rate text a b x y =
    let fronts = same_split text x.whole x.rest y.whole y.rest x.front y.front x.digits.each y.digits.each
    (rest_other x.rest x.fraction x.ending x.power x.behind x.scale) (rest_other y.rest y.fraction y.ending y.power y.behind y.scale) in
    let behind : HasFraction x.rest y.fraction y.ending = subst (λ (rest : List ℕ). HasFraction rest y.fraction y.ending) (sym fronts.1) y.behind in
    let ends = same_fraction x.rest x.fraction x.ending y.fraction y.ending x.power y.power x.behind behind x.scale y.scale in
    let powers : x.power ≡ y.power = same_power x.ending y.ending x.power y.power ends.1 x.scale y.scale in
    let value : b * 10 ^ length x.fraction ≡ number_after 0 (x.whole ++ x.fraction) * 10 ^ x.power =
    rw (fronts.0, ends.0, powers) y.value in
    cancel a b (10 ^ length x.fraction) (one-le-pow (length x.fraction) 10 (omega arith)) (x.value ∙ sym value)

pub same_some : (a b : ℕ) → Some a ≡ Some b → a ≡ b
same_some a b same = cc

-- the same digits and the same power
pub scaled_of : (whole whole' fraction fraction' : List ℕ) (power power' rate : ℕ) → whole' ≡ whole → fraction' ≡ fraction → power' ≡ power → IsScaled whole fraction power rate → IsScaled whole' fraction' power' rate
scaled_of whole whole' fraction fraction' power power' rate wholes fractions powers is = rw (wholes, fractions, powers) is
