-- What is written of a field is as long as the field, passes its test and is read back.
use Rattle.std.proofs.Common.{◌≡◌, ℕ, zero, suc, ◌+◌, ◌*◌, ◌/◌, ◌^◌, ◌<◌, not, Bool, true, false, List, [], ◌∷◌, ◌++◌, length, get_or, take, drop, All, FitsSigned, w16, w32, ℤ, pos, neg_ℤ, int_lt, ltb, eqb, lt-ltb, eq-eqb, ◌||◌, inl, inr, refl, sym, ap, ap₂, ◌∙◌, arith, length-append}
use Rattle.std.specs.List.{flat_map, AllByRecursion}
use Rattle.std.specs.Int.{Width, byte_len, cast_signed, cast_unsigned, to_be_bytes, from_be_bytes}
use Rattle.std.proofs.lemmas.Nat.{from_be_bytes-to_be_bytes_2, from_be_bytes-to_be_bytes_4}
use Rattle.std.proofs.lemmas.Int.{ints, to_z-of_z, fits_signed_from_abs}
use Rattle.std.proofs.lemmas.Bool.{cases_Bool, cases_eq, and_from, or_right, or_left}
use Rattle.std.proofs.lemmas.List.{same_lists, get_or-map, get_or_past, take_at, drop_at, drop-drop}
use Rattle.std.proofs.lemmas.List.Concat.{flat_map-cons}
use Rattle.std.proofs.lemmas.List.Elements.{recursion_from_All}
use Rattle.std.proofs.lemmas.List.FromFn.{length-range_with_len, get_or-range_with_len}
use Rattle.s2_bits.specs.Bits.{bit_of_bytes, byte_at}
use Rattle.s2_rows.specs.Values.{is_value}
use Rattle.s2_mode.specs.Limits.{max_soft}
use Rattle.s2_certfile.proofs.Padding.{padded_yes}
use Rattle.s2_certfile.proofs.ByteBits.{bit_back}
use Rattle.s2_certfile.specs.declared.step.Move.{Move}
use Rattle.s2_certfile.specs.declared.version.Version.{Version}
use Rattle.s2_certfile.specs.declared.version.Version.TheVariants as versions
use Rattle.s2_certfile.specs.declared.header.FileHeader.{FileHeader}
use Rattle.s2_mode.specs.Shape.{code_bits}
use Rattle.s2_certfile.specs.File.{IsMove, IsSoft, Split, Listed, Moved}
use Rattle.s2_certfile.specs.Field.{Field, IsField, number, places, both, many, bytes_of_bits, bit_list, entry}
use Rattle.s2_certfile.specs.Format.{soft_width, soft, share, move, move_of, move_numbers, is_move, split, split_bytes, body}
use Rattle.s2_certfile.proofs.EntryLemmas.{all_pass, length-listed}
use Rattle.s2_certfile.proofs.Bodies.{listed}

-- ---- numbers

number16_is : IsField (number w16) (λ n. n < 2 ^ 16)
number16_is = record { long = λ n h. refl; passes = λ n h. refl; back = λ n h. from_be_bytes-to_be_bytes_2 n h }

number32_is : IsField (number w32) (λ n. n < 2 ^ 32)
number32_is = record { long = λ n h. refl; passes = λ n h. refl; back = λ n h. from_be_bytes-to_be_bytes_4 n h }

pub share_is : IsField share (FitsSigned w32)
share_is = record {
  long = λ z h. refl;
  passes = λ z h. refl;
  back = λ z h. (
      let small : cast_unsigned w32 z < 2 ^ 32 = omega (arith, ints) in
      ap (cast_signed w32) (from_be_bytes-to_be_bytes_4 (cast_unsigned w32 z) small) ∙ to_z-of_z w32 z h
      );
}

-- ---- two fields

pub both_are : {A B : Type 0} (f : Field A) (g : Field B) (P : A → Type 0) (Q : B → Type 0) → IsField f P → IsField g Q → IsField (both f g) (λ x. P x.0 × Q x.1)
both_are f g P Q p q = record {
  long = λ x h. length-append (f.bytes x.0) (g.bytes x.1) ∙ ap₂ (λ a b. a + b) (p.long x.0 h.0) (q.long x.1 h.1);
  passes = λ x h. and_from _ _ (ap f.test (take_at (f.bytes x.0) (g.bytes x.1) f.size (p.long x.0 h.0)) ∙ p.passes x.0 h.0) (ap g.test (drop_at (f.bytes x.0) (g.bytes x.1) f.size (p.long x.0 h.0)) ∙ q.passes x.1 h.1);
  back = λ x h. ap₂ (λ a b. (a, b)) (ap f.value (take_at (f.bytes x.0) (g.bytes x.1) f.size (p.long x.0 h.0)) ∙ p.back x.0 h.0) (ap g.value (drop_at (f.bytes x.0) (g.bytes x.1) f.size (p.long x.0 h.0)) ∙ q.back x.1 h.1);
}

-- ---- a list of fields

many_long : {A : Type 0} (f : Field A) (P : A → Type 0) → IsField f P → (xs : List A) → AllByRecursion P xs → length (flat_map f.bytes xs) ≡ length xs * f.size
many_long f P p [] h = omega arith
many_long f P p (x ∷ xs) h =
    ap length (flat_map-cons f.bytes x xs) ∙ length-append (f.bytes x) (flat_map f.bytes xs) ∙ ap₂ (λ a b. a + b) (p.long x h.0) (many_long f P p xs h.1) ∙ omega arith

-- entry i
entry_is : {A : Type 0} (f : Field A) (P : A → Type 0) → IsField f P → (xs : List A) → AllByRecursion P xs → (i : ℕ) (d : A) → i < length xs → entry f.size (flat_map f.bytes xs) i ≡ f.bytes (get_or xs i d)
entry_is f P p [] h i d low = absurd (omega arith)
entry_is f P p (x ∷ xs) h zero d low =
    let none : zero * f.size ≡ 0 = omega arith in
    ap₂ (λ k l. take f.size (drop k l)) none (flat_map-cons f.bytes x xs) ∙ take_at (f.bytes x) (flat_map f.bytes xs) f.size (p.long x h.0)
entry_is f P p (x ∷ xs) h (suc i) d low =
    let more : suc i * f.size ≡ f.size + i * f.size = omega arith in
    let all = flat_map-cons f.bytes x xs in
    let rest : drop f.size (f.bytes x ++ flat_map f.bytes xs) ≡ flat_map f.bytes xs = drop_at (f.bytes x) (flat_map f.bytes xs) f.size (p.long x h.0) in
    ap₂ (λ k l. take f.size (drop k l)) more all ∙ ap (take f.size) (sym (drop-drop (i * f.size) f.size (f.bytes x ++ flat_map f.bytes xs)) ∙ ap (drop (i * f.size)) rest) ∙ entry_is f P p xs h.1 i d (omega arith)

many_passes : {A : Type 0} (f : Field A) (P : A → Type 0) → IsField f P → (xs : List A) → All P xs → (i : ℕ) → i < length xs → f.test (entry f.size (flat_map f.bytes xs) i) ≡ true
many_passes f P p [] h i low = absurd (omega arith)
many_passes f P p (x ∷ xs) h i low =
    ap f.test (entry_is f P p (x ∷ xs) (recursion_from_All P (x ∷ xs) h) i x low) ∙ p.passes (get_or (x ∷ xs) i x) (h i x low)

pub many_are : {A : Type 0} (n : ℕ) (f : Field A) (P : A → Type 0) → IsField f P → IsField (many n f) (λ xs. (length xs ≡ n) × All P xs)
many_are n f P p = record {
  long = λ xs h. many_long f P p xs (recursion_from_All P xs h.1) ∙ ap (λ k. k * f.size) h.0;
  passes = λ xs h. all_pass (λ i. f.test (entry f.size (flat_map f.bytes xs) i)) n (λ i low. many_passes f P p xs h.1 i (omega (arith, h.0)));
  back = λ xs h. same_lists _ xs (length-listed (λ i. f.value (entry f.size (flat_map f.bytes xs) i)) n ∙ sym h.0) (λ k d low. (
      let within : k < n = omega (arith, length-listed (λ i. f.value (entry f.size (flat_map f.bytes xs) i)) n) in
      let there : k < length (places n) = omega (arith, length-range_with_len 0 n) in
      let place : get_or (places n) k 0 ≡ k = omega (arith, get_or-range_with_len 0 n k 0 within) in
      let short : k < length xs = omega (arith, h.0) in
      get_or-map (λ i. f.value (entry f.size (flat_map f.bytes xs) i)) (places n) k 0 d there ∙ ap (λ i. f.value (entry f.size (flat_map f.bytes xs) i)) place ∙ ap f.value (entry_is f P p xs (recursion_from_All P xs h.1) k d short) ∙ p.back (get_or xs k d) (h.1 k d short)
      ));
}

-- ---- bits

pub bit_list_is : (n : ℕ) → IsField (bit_list n) (λ b. length b ≡ n)
bit_list_is n = record {
  long = λ b h. length-listed (λ i. byte_at b (8 * i)) ((length b + 7) / 8) ∙ ap (λ m. (m + 7) / 8) h;
  passes = λ b h. padded_yes (bytes_of_bits b) n (λ k low high. bit_back b k (omega (arith, length-listed (λ i. byte_at b (8 * i)) ((length b + 7) / 8))) ∙ get_or_past b k false (omega (arith, h)));
  back = λ b h. sym (listed (bit_of_bytes (bytes_of_bits b)) n b h (λ k low. sym (bit_back b k (omega (arith, h)))));
}

-- ---- soft values

soft_passes : (v : ℤ) → IsSoft v → is_value v ≡ true
soft_passes v h =
    let low : int_lt v (neg_ℤ (pos max_soft)) ≡ false = elim (cases_Bool (int_lt v (neg_ℤ (pos max_soft)))) [ inl less ↦ absurd (omega (arith, ints, h.low)) | inr ok ↦ ok ] in
    let high : int_lt (pos max_soft) v ≡ false = elim (cases_Bool (int_lt (pos max_soft) v)) [ inl less ↦ absurd (omega (arith, ints, h.high)) | inr ok ↦ ok ] in
    and_from _ _ (ap not low) (ap not high)

-- a width whose numbers are read back
record IsWidth (w : Width) : Type 0 where
  again : (n : ℕ) → n < 2 ^ (8 * byte_len w) → from_be_bytes w (to_be_bytes w n) ≡ n

width16 : IsWidth w16
width16 = record { again = λ n h. from_be_bytes-to_be_bytes_2 n h }

soft_width_is : IsWidth soft_width
soft_width_is = width16

soft_back : (z : ℤ) → IsSoft z → soft.value (soft.bytes z) ≡ z
soft_back z h =
    let small : cast_unsigned soft_width z < 2 ^ (8 * byte_len soft_width) = omega (arith, ints, h.low, h.high) in
    ap (cast_signed soft_width) (soft_width_is.again (cast_unsigned soft_width z) small) ∙ to_z-of_z soft_width z (fits_signed_from_abs soft_width z (omega (arith, ints, h.low, h.high)))

pub soft_is : IsField soft IsSoft
soft_is = record {
  long = λ z h. refl;
  passes = λ z h. ap is_value (soft_back z h) ∙ soft_passes z h;
  back = soft_back;
}

-- ---- moves

move_passes : (m : Move) → IsMove m → is_move m ≡ true
move_passes m h =
    let some : (ltb 0 m.amount || eqb m.place 0) ≡ true = elim (cases_eq m.amount 0) [
      | inl none ↦ or_right (ltb 0 m.amount) (eqb m.place 0) (eq-eqb m.place 0 (h.unmoved none))
      | inr some ↦ or_left (ltb 0 m.amount) (eqb m.place 0) (lt-ltb 0 m.amount (omega (arith, some)))
    ] in
    and_from _ _ (lt-ltb m.amount 2147483648 h.amount_fits) some

numbers_are : IsField move_numbers (λ x. (x.0 < 2 ^ 16) × (x.1 < 2 ^ 32))
numbers_are = both_are (number w16) (number w32) (λ n. n < 2 ^ 16) (λ n. n < 2 ^ 32) number16_is number32_is

move_back : (m : Move) → IsMove m → move.value (move.bytes m) ≡ m
move_back m h =
    ap move_of (numbers_are.back (m.place, m.amount) (h.place_fits, omega (arith, h.amount_fits)))

pub move_is : IsField move IsMove
move_is = record { long = λ m h. refl; passes = λ m h. ap is_move (move_back m h) ∙ move_passes m h; back = move_back }

-- ---- the split

-- of this version, and so many
abbrev pub IsOf : Version → ℕ → Split → Type 0
IsOf versions.Listed n (Listed xs) = (length xs ≡ n) × All (FitsSigned w32) xs
IsOf versions.Listed n (Moved ms) = ⊥
IsOf versions.Moved n (Listed xs) = ⊥
IsOf versions.Moved n (Moved ms) = (length ms ≡ n) × All IsMove ms

-- a split's bytes, whatever the version
pub split_bytes_are : (v : Version) (n : ℕ) (s : Split) → split_bytes s ≡ (split v n).bytes s
split_bytes_are versions.Listed n s = refl
split_bytes_are versions.Moved n s = refl

split_long : (v : Version) (n : ℕ) (s : Split) → IsOf v n s → length ((split v n).bytes s) ≡ (split v n).size
split_long versions.Listed n (Listed xs) h = (many_are n share (FitsSigned w32) share_is).long xs h
split_long versions.Listed n (Moved ms) h = absurd h
split_long versions.Moved n (Listed xs) h = absurd h
split_long versions.Moved n (Moved ms) h = (many_are n move IsMove move_is).long ms h

split_passes : (v : Version) (n : ℕ) (s : Split) → IsOf v n s → (split v n).test ((split v n).bytes s) ≡ true
split_passes versions.Listed n (Listed xs) h = (many_are n share (FitsSigned w32) share_is).passes xs h
split_passes versions.Listed n (Moved ms) h = absurd h
split_passes versions.Moved n (Listed xs) h = absurd h
split_passes versions.Moved n (Moved ms) h = (many_are n move IsMove move_is).passes ms h

split_back : (v : Version) (n : ℕ) (s : Split) → IsOf v n s → (split v n).value ((split v n).bytes s) ≡ s
split_back versions.Listed n (Listed xs) h = ap Listed ((many_are n share (FitsSigned w32) share_is).back xs h)
split_back versions.Listed n (Moved ms) h = absurd h
split_back versions.Moved n (Listed xs) h = absurd h
split_back versions.Moved n (Moved ms) h = ap Moved ((many_are n move IsMove move_is).back ms h)

pub split_is : (v : Version) (n : ℕ) → IsField (split v n) (IsOf v n)
split_is v n = record { long = split_long v n; passes = split_passes v n; back = split_back v n }

-- ---- the body

abbrev pub IsBody : FileHeader → List ℤ × (List Bool × Split) → Type 0
IsBody h x =
    ((length x.0 ≡ code_bits h.shape) × All IsSoft x.0) × ((length x.1.0 ≡ code_bits h.shape) × IsOf h.version h.count x.1.1)

pub body_is : (h : FileHeader) → IsField (body h) (IsBody h)
body_is h =
    let n = code_bits h.shape in
    both_are (many n soft) (both (bit_list n) (split h.version h.count)) (λ x. (length x ≡ n) × All IsSoft x) (λ x. (length x.0 ≡ n) × IsOf h.version h.count x.1) (many_are n soft IsSoft soft_is) (both_are (bit_list n) (split h.version h.count) (λ b. length b ≡ n) (IsOf h.version h.count) (bit_list_is n) (split_is h.version h.count))
