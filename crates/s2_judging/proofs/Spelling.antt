-- A word, byte by byte.
use Rattle.std.proofs.Common.{◌≡◌, ◌≢◌, ℕ, zero, suc, ◌+◌, ◌-◌, ◌*◌, ◌≤◌, ◌<◌, ◌==◌, min, Bool, true, false, cond, leb, List, [], ◌∷◌, ◌++◌, length, ℤ, pos, neg_ℤ, int_lt, Option, Some, None, Result, Ok, Err, inl, inr, refl, sym, ap, ap₂, ◌∙◌, subst, arith}
use Rattle.std.specs.Prelude.{◌⊎◌, not, ◌&&◌, if◌then◌else◌}
use Rattle.std.specs.Option.{option_map}
use Rattle.std.proofs.lemmas.Bool.{cases_Bool, leb-true, leb-false, eqb-true, eqb-false, and_parts, ne_eqb}
use Rattle.std.proofs.lemmas.Int.{ints}
use Rattle.s2_mode.specs.Limits.{max_soft}
use Rattle.s2_rows.specs.Numbers.{is_digit, digits_from, natural_of}
use Rattle.s2_rows.specs.Values.{signed, is_value, in_range, number_of, value_of}
use Rattle.s2_rows.specs.declared.values.ValueFault.{ValueFault}
use Rattle.s2_rows.specs.declared.values.ValueFault.TheVariants as faults
use Rattle.s2_judging.specs.declared.words.Word.{Word}
use Rattle.s2_judging.specs.Hard.{bit_of}
use Rattle.s2_judging.specs.Frames.{word_by}
use Rattle.s2_judging.specs.Bytewise.{more_digits, then_byte, no_digits, first_byte, number_in, bit_at, word_said}

-- one more digit, of a number that is not limited
abbrev with_digit : Option ℕ → ℕ → Option ℕ
with_digit None b = None
with_digit (Some n) b = if is_digit b then Some (n * 10 + (b - 48)) else None

digits_more : (n : ℕ) (digits : List ℕ) (b : ℕ) → digits_from n (digits ++ b ∷ []) ≡ with_digit (digits_from n digits) b
unfolding digits_from
digits_more n [] b = refl
digits_more n (d ∷ digits) b =
    elim (cases_Bool (is_digit d)) [ inl some ↦ (rw some (digits_more (n * 10 + (d - 48)) digits b)) | inr none ↦ (rw none refl) ]

min_digit : (n d : ℕ) → min 1000000 (n * 10 + d) ≡ min 1000000 (min 1000000 n * 10 + d)
min_digit n d = omega arith

-- the number so far, up to a million
abbrev number_of_digits : List ℕ → Option ℕ
number_of_digits digits = option_map (min 1000000) (digits_from 0 digits)

limited_more : (number : Option ℕ) (b : ℕ) → option_map (min 1000000) (with_digit number b) ≡ more_digits (option_map (min 1000000) number) b
limited_more None b = refl
limited_more (Some n) b =
    elim (cases_Bool (is_digit b)) [ inl some ↦ (rw some (ap Some (min_digit n (b - 48)))) | inr none ↦ (rw none refl) ]

-- the bytes of a word, after its minus if it has one
pub record Spells (bytes : List ℕ) (word : Word) : Type 0 where
  pub digits : List ℕ
  pub front : ((word.minus ≡ true) × (bytes ≡ 45 ∷ digits))
      ⊎ ((word.minus ≡ false) × ((b : ℕ) × (more : List ℕ) × (digits ≡ b ∷ more) × ((b == 45) ≡ false) × (bytes ≡ digits)))
  pub count : word.digits ≡ min 2 (length digits)
  pub number : word.number ≡ number_of_digits digits

length_more : (digits : List ℕ) (b : ℕ) → length (digits ++ b ∷ []) ≡ length digits + 1
length_more [] b = refl
length_more (d ∷ digits) b = ap suc (length_more digits b) ∙ omega arith

count_more : (digits : List ℕ) (b count : ℕ) → count ≡ min 2 (length digits) → min 2 (count + 1) ≡ min 2 (length (digits ++ b ∷ []))
count_more digits b count h = omega (arith, h, length_more digits b)

number_more : (digits : List ℕ) (b : ℕ) (number : Option ℕ) → number ≡ number_of_digits digits → more_digits number b ≡ number_of_digits (digits ++ b ∷ [])
number_more digits b number h =
    ap (λ n. more_digits n b) h ∙ sym (limited_more (digits_from 0 digits) b) ∙ ap (option_map (min 1000000)) (sym (digits_more 0 digits b))

pub spells_first : (b : ℕ) → Spells (b ∷ []) (first_byte b)
unfolding digits_from
spells_first b =
    elim (cases_Bool (b == 45)) [
      | inl minus ↦ (let is : b ≡ 45 = eqb-true b 45 minus in
          rw minus (record { digits = []; front = inl (refl, ap (λ x. x ∷ []) is); count = refl; number = refl }))
      | inr other ↦ (rw other (record {
        digits = b ∷ [];
        front = inr (refl, (b, [], refl, other, refl));
        count = refl;
        number = number_more [] b (Some 0) refl;
      }))
    ]

pub spells_then : (bytes : List ℕ) (word : Word) (b : ℕ) → Spells bytes word → Spells (bytes ++ b ∷ []) (then_byte word b)
spells_then bytes word b h = record {
  digits = h.digits ++ b ∷ [];
  front = front_then h.digits h.front;
  count = count_more h.digits b word.digits h.count;
  number = number_more h.digits b word.number h.number;
}
  where
    front_then : (digits : List ℕ)
        → ((word.minus ≡ true) × (bytes ≡ 45 ∷ digits)) ⊎ ((word.minus ≡ false) × ((c : ℕ) × (more : List ℕ) × (digits ≡ c ∷ more) × ((c == 45) ≡ false) × (bytes ≡ digits)))
        → ((word.minus ≡ true) × (bytes ++ b ∷ [] ≡ 45 ∷ (digits ++ b ∷ []))) ⊎ ((word.minus ≡ false) × ((c : ℕ) × (more : List ℕ) × (digits ++ b ∷ [] ≡ c ∷ more) × ((c == 45) ≡ false) × (bytes ++ b ∷ [] ≡ digits ++ b ∷ [])))
    front_then digits (inl (minus, is)) = inl (minus, ap (λ x. x ++ b ∷ []) is)
    front_then digits (inr (plain, (c, more, starts, other, is))) =
        inr (plain, (c, more ++ b ∷ [], ap (λ x. x ++ b ∷ []) starts, other, ap (λ x. x ++ b ∷ []) is))

-- ---- what it says

and_false : {A : Type 0} → (x : Bool) (a b : A) → cond (x && false) a b ≡ b
and_false true a b = refl
and_false false a b = refl

-- a number over 511 is out of range, with a minus and without
out : (line n : ℕ) (minus : Bool) → 512 ≤ n → in_range line (Some (signed minus n)) ≡ Err (faults.OutOfRange line)
out line n true h = (let low : int_lt (neg_ℤ (pos n)) (neg_ℤ (pos max_soft)) ≡ true = grind (arith, ints, h) in rw low refl)
out line n false h =
    (let high : int_lt (pos max_soft) (pos n) ≡ true = grind (arith, ints, h) in
    rw high (and_false (not (int_lt (pos n) (neg_ℤ (pos max_soft)))) (Ok (pos n)) (Err (faults.OutOfRange line))))

small : (n : ℕ) → n ≤ 1000000 → min 1000000 n ≡ n
small n h = omega (arith, h)

large : (n : ℕ) → 1000000 < n → 512 ≤ min 1000000 n
large n h = omega (arith, h)

-- a number that is limited is in range exactly if the number is
limited_value : (line n : ℕ) (minus : Bool) → in_range line (Some (signed minus (min 1000000 n))) ≡ in_range line (Some (signed minus n))
limited_value line n minus =
    elim (cases_Bool (leb n 1000000)) [
      | inl few ↦ (ap (λ m. in_range line (Some (signed minus m))) (small n (leb-true n 1000000 few)))
      | inr many ↦ (let more = leb-false n 1000000 many in out line (min 1000000 n) minus (large n more) ∙ sym (out line n minus (omega (arith, more))))
    ]

limited_range : (line : ℕ) (minus : Bool) (number : Option ℕ) → in_range line (option_map (signed minus) (option_map (min 1000000) number)) ≡ in_range line (option_map (signed minus) number)
limited_range line minus None = refl
limited_range line minus (Some n) = limited_value line n minus

-- the number of a word is that of its digits
digits_say : (line count : ℕ) (minus : Bool) (digits : List ℕ) (number : Option ℕ) → count ≡ min 2 (length digits) → number ≡ number_of_digits digits
    → in_range line (option_map (signed minus) (if count == 0 then None else number)) ≡ in_range line (option_map (signed minus) (natural_of digits))
digits_say line count minus [] number c n = (let none : count ≡ 0 = omega (arith, c) in rw none refl)
digits_say line count minus (d ∷ digits) number c n =
    (let some : (count == 0) ≡ false = ne_eqb count 0 (λ e. omega (arith, c, e)) in
    rw (some, n) (limited_range line minus (digits_from 0 (d ∷ digits))))

soft_said : (line : ℕ) (bytes : List ℕ) (word : Word) → Spells bytes word → word_said false line word ≡ value_of line bytes
soft_said line bytes word h = by_front h.digits h.front h.count h.number
  where
    by_front : (digits : List ℕ)
        → ((word.minus ≡ true) × (bytes ≡ 45 ∷ digits)) ⊎ ((word.minus ≡ false) × ((c : ℕ) × (more : List ℕ) × (digits ≡ c ∷ more) × ((c == 45) ≡ false) × (bytes ≡ digits)))
        → word.digits ≡ min 2 (length digits) → word.number ≡ number_of_digits digits → word_said false line word ≡ value_of line bytes
    by_front digits (inl (minus, is)) c n = rw (minus, is) (digits_say line word.digits true digits word.number c n)
    by_front digits (inr (plain, (d, more, starts, other, is))) c n =
        rw (plain, is, starts, other) (digits_say line word.digits false (d ∷ more) word.number (c ∙ ap (λ x. min 2 (length x)) starts) (n ∙ ap number_of_digits starts))

-- one digit
one_digit : (line b : ℕ) → (b == 45) ≡ false → bit_at line (number_of_digits (b ∷ [])) ≡ bit_of line (b ∷ [])
unfolding digits_from
one_digit line b other =
    elim (cases_Bool (b == 48)) [
      | inl is0 ↦ (let is : b ≡ 48 = eqb-true b 48 is0 in rw is refl)
      | inr not0 ↦ elim (cases_Bool (b == 49)) [
        | inl is1 ↦ (let is : b ≡ 49 = eqb-true b 49 is1 in rw is refl)
        | inr not1 ↦ elim (cases_Bool (is_digit b)) [
          | inl digit ↦ (
              let low : 48 ≤ b = leb-true 48 b (and_parts _ _ digit).0 in
              let high : b ≤ 57 = leb-true b 57 (and_parts _ _ digit).1 in
              let ne0 : (min 1000000 (0 * 10 + (b - 48)) == 0) ≡ false = ne_eqb _ 0 (λ e. absurd (eqb-false b 48 not0 (omega (arith, low, high, e)))) in
              let ne1 : (min 1000000 (0 * 10 + (b - 48)) == 1) ≡ false = ne_eqb _ 1 (λ e. absurd (eqb-false b 49 not1 (omega (arith, low, high, e)))) in
              rw (digit, not0, not1, ne0, ne1) refl)
          | inr none ↦ (rw (none, not0, not1) refl)
        ]
      ]
    ]

bit_said : (line : ℕ) (bytes : List ℕ) (word : Word) → Spells bytes word → word_said true line word ≡ bit_of line bytes
bit_said line bytes word h = by_front h.digits h.front h.count h.number
  where
    minus_bit : (digits : List ℕ) → Err (faults.OutOfRange line) ≡ bit_of line (45 ∷ digits)
    minus_bit [] = refl
    minus_bit (d ∷ digits) = refl

    plain_bit : (b : ℕ) (more : List ℕ) (count : ℕ) (number : Option ℕ) → (b == 45) ≡ false → count ≡ min 2 (length (b ∷ more)) → number ≡ number_of_digits (b ∷ more)
        → (if count == 1 then bit_at line number else Err (faults.OutOfRange line)) ≡ bit_of line (b ∷ more)
    plain_bit b [] count number other c n = (let one : count ≡ 1 = omega (arith, c) in rw (one, n) (one_digit line b other))
    plain_bit b (d ∷ more) count number other c n = (let two : count ≡ 2 = omega (arith, c) in rw two refl)

    by_front : (digits : List ℕ)
        → ((word.minus ≡ true) × (bytes ≡ 45 ∷ digits)) ⊎ ((word.minus ≡ false) × ((c : ℕ) × (more : List ℕ) × (digits ≡ c ∷ more) × ((c == 45) ≡ false) × (bytes ≡ digits)))
        → word.digits ≡ min 2 (length digits) → word.number ≡ number_of_digits digits → word_said true line word ≡ bit_of line bytes
    by_front digits (inl (minus, is)) c n = rw (minus, is) (minus_bit digits)
    by_front digits (inr (plain, (d, more, starts, other, is))) c n =
        rw (plain, is, starts) (plain_bit d more word.digits word.number other (c ∙ ap (λ x. min 2 (length x)) starts) (n ∙ ap number_of_digits starts))

-- a whole word says what its bytes say
pub spells_said : (hard : Bool) (line : ℕ) (bytes : List ℕ) (word : Word) → Spells bytes word → word_said hard line word ≡ word_by hard (line, bytes)
spells_said true line bytes word h = bit_said line bytes word h
spells_said false line bytes word h = soft_said line bytes word h
