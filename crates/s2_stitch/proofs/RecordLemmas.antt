-- A record's bytes, and what is read of them.
use Rattle.std.proofs.Common.{◌≡◌, ℕ, ◌+◌, ◌^◌, ◌<◌, ◌≤◌, Bool, true, false, List, [], ◌∷◌, ◌++◌, length, take, drop, Option, Some, None, w32, w64, refl, sym, ap, ap₂, subst, ◌∙◌, arith, ltb, le-ltb, length-append, append_assoc}
use Rattle.std.proofs.lemmas.List.{take_at, drop_at, drop-drop, same_lists, get_or-map, get_or_default, drop_all, drop_more, take_more, take-append-drop}
use Rattle.std.proofs.lemmas.Bool.{cases_Bool, ltb-false}
use Rattle.std.proofs.lemmas.List.FromFn.{length-range_with_len, get_or-range_with_len}
use Rattle.std.specs.List.{AllByRecursion, flat_map}
use Rattle.std.specs.Option.{unwrap_or}
use Rattle.std.proofs.lemmas.List.Concat.{flat_map-cons}
use Rattle.std.proofs.lemmas.List.Elements.{recursion_from_All}
use Rattle.std.specs.Io.KnownBytes.{Consumes, IsAtEnd}
use Rattle.std.proofs.Common.{IfSome, inl, inr, lt-ltb, map, get_or}
use Rattle.s2_bits.specs.Bits.{bit_at, bit_of_bytes}
use Rattle.s2_certfile.proofs.EntryLemmas.{length-listed}
use Rattle.s2_certfile.specs.Field.{places}
use Rattle.s2_stitch.specs.Reading.{IsFront, ReadsAs}
use Rattle.s2_stitch.specs.declared.read.Front.{Front}
use Rattle.std.proofs.lemmas.Nat.{from_be_bytes-to_be_bytes_4, from_be_bytes-to_be_bytes_8}
use Rattle.s2_certfile.specs.Field.{IsField, both, bit_list, bytes_of_bits, number}
use Rattle.s2_certfile.proofs.Fields.{bit_list_is, both_are}
use Rattle.s2_check.specs.declared.verdict.Verdict.{Verdict}
use Rattle.s2_check.specs.declared.verdict.Verdict.TheVariants.{Sole, MostLikely, Parity, Broken}
use Rattle.s2_stitch.specs.Records.{AreAllRecords, AreRecords, IsRecord, ReadAgainLaw, Record, SameRecordsLaw, WrittenLaw, body_at, front, max_certificate, record_at, record_bytes, verdict_byte, verdict_of}

-- ---- the front

number32_is : IsField (number w32) (λ n. n < 2 ^ 32)
number32_is = record { long = λ n h. refl; passes = λ n h. refl; back = λ n h. from_be_bytes-to_be_bytes_4 n h }

number64_is : IsField (number w64) (λ n. n < 2 ^ 64)
number64_is = record { long = λ n h. refl; passes = λ n h. refl; back = λ n h. from_be_bytes-to_be_bytes_8 n h }

abbrev Fits : ℕ × (ℕ × (ℕ × ℕ)) → Type 0
Fits x = (x.0 < 2 ^ 64) × ((x.1.0 < 2 ^ 64) × ((x.1.1.0 < 2 ^ 32) × (x.1.1.1 < 2 ^ 32)))

front_is : IsField front Fits
front_is = both_are (number w64) (both (number w64) (both (number w32) (number w32))) _ _ number64_is (both_are (number w64) (both (number w32) (number w32)) _ _ number64_is (both_are (number w32) (number w32) _ _ number32_is number32_is))

-- what begins with twenty-four bytes
begins : (n : ℕ) (head : List ℕ) (byte : ℕ) (rest : List ℕ) → length head ≡ front.size → record_at n (head ++ (byte ∷ rest)) ≡ body_at n (front.value head).0 (front.value head).1.0 (front.value head).1.1.0 (front.value head).1.1.1 (verdict_of byte) rest
unfolding record_at
begins n head byte rest long =
    let enough : ltb (length (head ++ (byte ∷ rest))) front.size ≡ false = le-ltb _ _ (omega (arith, long, length-append head (byte ∷ rest))) in
    let a = take_at head (byte ∷ rest) front.size long in
    let b = drop_at head (byte ∷ rest) front.size long in
    rw (enough, a, b) refl

-- no record: too few bytes for a front, another byte than a verdict's, a certificate that is too long, or too few bytes after the front
pub too_short : (n : ℕ) (bytes : List ℕ) → length bytes < 25 → record_at n bytes ≡ None
unfolding record_at
too_short n bytes few = elim (cases_Bool (ltb (length bytes) front.size)) [
  | inl less ↦ rw less refl
  | inr enough ↦ (
      let full : length bytes ≡ 24 = omega (arith, few, ltb-false _ _ enough) in
      let none : drop front.size bytes ≡ [] = drop_all 24 bytes (omega (arith, full)) in
      rw (enough, none) refl
      )
]

module _ (n : ℕ) (head : List ℕ) (byte : ℕ) (rest : List ℕ) (long : length head ≡ front.size) where
  pub no_verdict : verdict_of byte ≡ None → record_at n (head ++ (byte ∷ rest)) ≡ None
  no_verdict none = begins n head byte rest long ∙ ap (λ v. body_at n (front.value head).0 (front.value head).1.0 (front.value head).1.1.0 (front.value head).1.1.1 v rest) none

  long_body : (v : Option (Option Verdict)) → ltb max_certificate (front.value head).1.1.1 ≡ true → body_at n (front.value head).0 (front.value head).1.0 (front.value head).1.1.0 (front.value head).1.1.1 v rest ≡ None
  long_body None is = refl
  long_body (Some verdict) is = rw is refl

  pub too_long : max_certificate < (front.value head).1.1.1 → record_at n (head ++ (byte ∷ rest)) ≡ None
  too_long more = begins n head byte rest long ∙ long_body (verdict_of byte) (lt-ltb _ _ more)

  short_body : (v : Option (Option Verdict)) (over : Bool) → ltb max_certificate (front.value head).1.1.1 ≡ over → ltb (length rest) ((bit_list n).size + (front.value head).1.1.1) ≡ true → body_at n (front.value head).0 (front.value head).1.0 (front.value head).1.1.0 (front.value head).1.1.1 v rest ≡ None
  short_body None over is less = refl
  short_body (Some verdict) true is less = rw is refl
  short_body (Some verdict) false is less = rw (is, less) refl

  pub no_body : length rest < (bit_list n).size + (front.value head).1.1.1 → record_at n (head ++ (byte ∷ rest)) ≡ None
  no_body less = begins n head byte rest long ∙ short_body (verdict_of byte) _ refl (lt-ltb _ _ less)

-- ---- front, verdict and body

-- the parts of a record, one after another, are read as these
module _ (n : ℕ) (head word certificate rest : List ℕ) (byte : ℕ) (verdict : Option Verdict) (long : length head ≡ front.size) (is : verdict_of byte ≡ Some verdict) (word_long : length word ≡ (bit_list n).size) (size_is : (front.value head).1.1.1 ≡ length certificate) (few : length certificate ≤ max_certificate) where
  abbrev made : Record
  made = record { at = (front.value head).0; seal = (front.value head).1.0; rounds = (front.value head).1.1.0; verdict = verdict; bits = (bit_list n).value word; certificate = certificate }

  in_body : body_at n (front.value head).0 (front.value head).1.0 (front.value head).1.1.0 (front.value head).1.1.1 (Some verdict) (word ++ (certificate ++ rest)) ≡ Some (made, rest)
  in_body =
      let size = (bit_list n).size in
      let all = word ++ (certificate ++ rest) in
      let small : ltb max_certificate (length certificate) ≡ false = le-ltb _ _ few in
      let enough : ltb (length all) (size + length certificate) ≡ false = le-ltb _ _ (omega (arith, word_long, length-append word (certificate ++ rest), length-append certificate rest)) in
      let a = take_at word (certificate ++ rest) size word_long in
      let b = drop_at word (certificate ++ rest) size word_long in
      let c = take_at certificate rest (length certificate) refl in
      let d = drop_at certificate rest (length certificate) refl in
      let e : drop (size + length certificate) all ≡ rest = sym (drop-drop (length certificate) size all) ∙ ap (drop (length certificate)) b ∙ d in
      rw (size_is, small, enough, a, b, c, e) refl

  pub parts_are : record_at n (head ++ (byte ∷ (word ++ (certificate ++ rest)))) ≡ Some (made, rest)
  parts_are = begins n head byte (word ++ (certificate ++ rest)) long ∙ ap (λ v. body_at n (front.value head).0 (front.value head).1.0 (front.value head).1.1.0 (front.value head).1.1.1 v (word ++ (certificate ++ rest))) is ∙ in_body

verdict_again : (v : Option Verdict) → verdict_of (verdict_byte v) ≡ Some v
verdict_again (Some Sole) = refl
verdict_again (Some MostLikely) = refl
verdict_again (Some Parity) = refl
verdict_again (Some Broken) = refl
verdict_again None = refl

-- ---- a record

pub read_again : ReadAgainLaw
read_again n r rest is =
    let fits : Fits (r.at, (r.seal, (r.rounds, length r.certificate))) = (is.at, (is.seal, (is.rounds, omega (arith, is.certificate)))) in
    let head = front.bytes (r.at, (r.seal, (r.rounds, length r.certificate))) in
    let word = bytes_of_bits r.bits in
    let back : front.value head ≡ (r.at, (r.seal, (r.rounds, length r.certificate))) = front_is.back _ fits in
    let again : (bit_list n).value word ≡ r.bits = (bit_list_is n).back r.bits is.bits in
    let parts = parts_are n head word r.certificate rest (verdict_byte r.verdict) r.verdict (front_is.long _ fits) (verdict_again r.verdict) ((bit_list_is n).long r.bits is.bits) (ap (λ x. x.1.1.1) back) is.certificate in
    let one : record_bytes r ++ rest ≡ head ++ (verdict_byte r.verdict ∷ (word ++ (r.certificate ++ rest))) =
    append_assoc head (verdict_byte r.verdict ∷ (word ++ r.certificate)) rest ∙ ap (λ l. head ++ (verdict_byte r.verdict ∷ l)) (append_assoc word r.certificate rest) in
    let two : made n head word r.certificate rest (verdict_byte r.verdict) r.verdict (front_is.long _ fits) (verdict_again r.verdict) ((bit_list_is n).long r.bits is.bits) (ap (λ x. x.1.1.1) back) is.certificate ≡ r = λ i. record { at = (back i).0; seal = (back i).1.0; rounds = (back i).1.1.0; verdict = r.verdict; bits = again i; certificate = r.certificate } in
    ap (record_at n) one ∙ parts ∙ ap (λ x. Some (x, rest)) two

-- ---- what is read

-- bits by their places
pub word_is : (n : ℕ) (bytes : List ℕ) (bits : List Bool) → length bits ≡ n → ((k : ℕ) → k < n → bit_at bits k ≡ bit_of_bytes bytes k) → bits ≡ (bit_list n).value bytes
word_is n bytes bits long at =
    same_lists bits (map (bit_of_bytes bytes) (places n)) (long ∙ sym (length-listed (bit_of_bytes bytes) n)) (λ k d h. (
    let short : k < n = omega arith in
    let within : k < length (places n) = omega (arith, length-range_with_len 0 n) in
    let place : k ≡ get_or (places n) k 0 = omega (arith, get_or-range_with_len 0 n k 0 short) in
    get_or_default bits k d false h ∙ at k short ∙ ap (bit_of_bytes bytes) place ∙ sym (get_or-map (bit_of_bytes bytes) (places n) k 0 d within)
    ))

-- too few bytes are left for a front
pub cut_front : (old new : Option (List ℕ)) (bytes : List ℕ) → Consumes old new bytes → IsAtEnd new → length bytes < 25 → IfSome old (λ xs. (n : ℕ) → record_at n xs ≡ None)
cut_front None new bytes read end few = tt
cut_front (Some xs) None bytes read end few = absurd read
cut_front (Some xs) (Some ys) bytes read end few = λ n. too_short n xs (omega (arith, few, ap length read, ap length end, length-append bytes ys))

-- the front is none
pub no_front : (old new : Option (List ℕ)) (head : List ℕ) (byte : ℕ) → Consumes old new (head ++ (byte ∷ [])) → ((n : ℕ) (rest : List ℕ) → record_at n (head ++ (byte ∷ rest)) ≡ None) → IfSome old (λ xs. (n : ℕ) → record_at n xs ≡ None)
no_front None new head byte read none = tt
no_front (Some xs) None head byte read none = absurd read
no_front (Some xs) (Some ys) head byte read none = λ n. ap (record_at n) (read ∙ append_assoc head (byte ∷ []) ys) ∙ none n ys

-- the bytes of a front, and that of the verdict
pub front_bytes : (bytes : List ℕ) → length bytes ≡ 25 → bytes ≡ take 24 bytes ++ (get_or bytes 24 0 ∷ [])
front_bytes bytes long =
    let one = drop_more bytes 24 0 (omega (arith, long)) in
    let none = drop_all 25 bytes (omega (arith, long)) in
    sym (take-append-drop 24 bytes) ∙ ap (λ l. take 24 bytes ++ l) (one ∙ ap (λ l. get_or bytes 24 0 ∷ l) none)

module _ (n : ℕ) (head : List ℕ) (byte : ℕ) (f : Front) (is : IsFront head byte f) where
  abbrev size : ℕ
  size = (bit_list n).size

  size_is : (front.value head).1.1.1 ≡ f.size
  size_is = ap (λ x. x.1.1.1) is.numbers

  -- the decided bits are cut
  pub cut_word : (old mid : Option (List ℕ)) → Consumes old mid (head ++ (byte ∷ [])) → IfSome mid (λ xs. length xs < size) → IfSome old (λ xs. record_at n xs ≡ None)
  cut_word None mid read few = tt
  cut_word (Some xs) None read few = absurd read
  cut_word (Some xs) (Some ys) read few = ap (record_at n) (read ∙ append_assoc head (byte ∷ []) ys) ∙ no_body n head byte ys is.long (omega (arith, few))

  -- the certificate is cut
  pub cut_certificate : (old mid next : Option (List ℕ)) (word : List ℕ) → length word ≡ size → Consumes old mid (head ++ (byte ∷ [])) → Consumes mid next word → IfSome next (λ xs. length xs < f.size) → IfSome old (λ xs. record_at n xs ≡ None)
  cut_certificate None mid next word long read more few = tt
  cut_certificate (Some xs) None next word long read more few = absurd read
  cut_certificate (Some xs) (Some ys) None word long read more few = absurd more
  cut_certificate (Some xs) (Some ys) (Some zs) word long read more few =
      ap (record_at n) (read ∙ append_assoc head (byte ∷ []) ys) ∙ no_body n head byte ys is.long (omega (arith, few, long, size_is, ap length more, length-append word zs))

  -- all of the record was read
  pub whole : (old mid next new : Option (List ℕ)) (word certificate : List ℕ) (bits : List Bool) → length word ≡ size → length certificate ≡ f.size → bits ≡ (bit_list n).value word
      → Consumes old mid (head ++ (byte ∷ [])) → Consumes mid next word → Consumes next new certificate → ReadsAs n old new (record { at = f.at; seal = f.seal; rounds = f.rounds; verdict = f.verdict; bits = bits; certificate = certificate })
  whole None mid next new word certificate bits long size_of bits_are read more last = tt
  whole (Some xs) None next new word certificate bits long size_of bits_are read more last = absurd read
  whole (Some xs) (Some ys) None new word certificate bits long size_of bits_are read more last = absurd more
  whole (Some xs) (Some ys) (Some zs) None word certificate bits long size_of bits_are read more last = absurd last
  whole (Some xs) (Some ys) (Some zs) (Some rest) word certificate bits long size_of bits_are read more last =
      let few : length certificate ≤ max_certificate = omega (arith, size_of, is.few) in
      let same : (front.value head).1.1.1 ≡ length certificate = size_is ∙ sym size_of in
      let all : xs ≡ head ++ (byte ∷ (word ++ (certificate ++ rest))) = read ∙ append_assoc head (byte ∷ []) ys ∙ ap (λ l. head ++ (byte ∷ l)) (more ∙ ap (λ l. word ++ l) last) in
      let made_is : made n head word certificate rest byte f.verdict is.long is.verdict long same few ≡ record { at = f.at; seal = f.seal; rounds = f.rounds; verdict = f.verdict; bits = bits; certificate = certificate } =
      λ i. record { at = (is.numbers i).0; seal = (is.numbers i).1.0; rounds = (is.numbers i).1.1.0; verdict = f.verdict; bits = sym bits_are i; certificate = certificate } in
      ap (record_at n) all ∙ parts_are n head word certificate rest byte f.verdict is.long is.verdict long same few ∙ ap (λ x. Some (x, rest)) made_is

-- ---- what is written

-- five parts, one after another
pub put_five : (start one two three four five a b c d e : List ℕ) → one ≡ start ++ a → two ≡ one ++ b → three ≡ two ++ c → four ≡ three ++ d → five ≡ four ++ e → five ≡ start ++ ((a ++ (b ++ (c ++ d))) ++ e)
put_five start one two three four five a b c d e e1 e2 e3 e4 e5 =
    let second : two ≡ start ++ (a ++ b) = e2 ∙ ap (λ l. l ++ b) e1 ∙ append_assoc start a b in
    let fourth : four ≡ start ++ (a ++ (b ++ (c ++ d))) =
    e4 ∙ ap (λ l. l ++ d) (e3 ∙ ap (λ l. l ++ c) second) ∙ append_assoc (start ++ (a ++ b)) c d ∙ append_assoc start (a ++ b) (c ++ d) ∙ ap (λ l. start ++ l) (append_assoc a b (c ++ d)) in
    e5 ∙ ap (λ l. l ++ e) fourth ∙ append_assoc start (a ++ (b ++ (c ++ d))) e

-- one more byte of some
pub put_byte : (start old new xs : List ℕ) (k byte : ℕ) → k < length xs → old ≡ start ++ take k xs → new ≡ old ++ (byte ∷ []) → byte ≡ get_or xs k 0 → new ≡ start ++ take (k + 1) xs
put_byte start old new xs k byte low before is byte_is =
    is ∙ ap (λ l. l ++ (byte ∷ [])) before ∙ append_assoc start (take k xs) (byte ∷ []) ∙ ap (λ l. start ++ l) (ap (λ b. take k xs ++ (b ∷ [])) byte_is ∙ sym (take_more xs k 0 low))

-- ---- many records

written_so : (n : ℕ) (records : List Record) → AllByRecursion (IsRecord n) records → AreAllRecords n records (flat_map record_bytes records)
written_so n [] are = refl
written_so n (r ∷ later) are =
    (flat_map record_bytes later, ap (record_at n) (flat_map-cons record_bytes r later) ∙ read_again n r (flat_map record_bytes later) are.0, written_so n later are.1)

pub written : WrittenLaw
written n records are = written_so n records (recursion_from_All (IsRecord n) records are)

-- nothing is read of nothing
pub none_left : (n : ℕ) → record_at n [] ≡ None
none_left n = too_short n [] (omega arith)

pub read_left : (n : ℕ) (bytes : List ℕ) (r s : Record) (left left' : List ℕ) → record_at n bytes ≡ Some (r, left) → record_at n bytes ≡ Some (s, left') → (r ≡ s) × (left ≡ left')
read_left n bytes r s left left' is is' =
    let same = sym is ∙ is' in
    (ap (λ (o : Option (Record × List ℕ)). (unwrap_or o (r, left)).0) same, ap (λ (o : Option (Record × List ℕ)). (unwrap_or o (r, left)).1) same)

pub not_read : (n : ℕ) (r : Record) (left : List ℕ) → record_at n [] ≡ Some (r, left) → ⊥
not_read n r left is = let none = none_left n in cc

pub same_records : SameRecordsLaw
same_records n [] [] bytes are others = refl
same_records n [] (r ∷ more) bytes are (left, is, rest) = absurd (not_read n r left (ap (record_at n) (sym are) ∙ is))
same_records n (r ∷ later) [] bytes (left, is, rest) others = absurd (not_read n r left (ap (record_at n) (sym others) ∙ is))
same_records n (r ∷ later) (s ∷ more) bytes (left, is, rest) (left', is', rest') =
    let (same, lefts) = read_left n bytes r s left left' is is' in
    let tails = subst (λ l. AreRecords n more l []) (sym lefts) rest' in
    ap₂ (λ a b. a ∷ b) same (same_records n later more left rest tails)
