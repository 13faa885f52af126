-- Bytes that are no more than their header says are not too long, and as many are not cut.
use Rattle.std.proofs.Common.{◌≡◌, ℕ, suc, ◌-◌, ◌<◌, ◌++◌, ◌+◌, ◌*◌, ◌≢◌, Option, ◌/◌, ◌≤◌, ◌==◌, ltb, leb, Bool, true, false, cond, get_or, List, [], ◌∷◌, length, take, drop, Result, Ok, Err, inl, inr, refl, sym, ap, ◌∙◌, subst, arith, le-leb, length-drop, mul-le-mul, take-append-drop}
use Rattle.std.specs.Prelude.{OnErr}
use Rattle.std.specs.Io.KnownBytes.{Consumes, IsAtEnd}
use Rattle.std.proofs.KnownBytes.{Consumes-trans}
use Rattle.std.proofs.lemmas.List.{take-take}
use Rattle.s2_io.specs.declared.fault.Fault.{Fault}
use Rattle.s2_io.specs.declared.fault.Fault.TheVariants as console_faults
use Rattle.s2_io.specs.Exits.{Follows}
use Rattle.s2_evidence.specs.Checking.{certificate_said}
use Rattle.std.specs.Int.{Width, w16, w32, byte_len, from_be_bytes}
use Rattle.std.proofs.lemmas.Bool.{le-ltb, leb-true, ltb-true, ltb-false, and_parts, cases_Bool}
use Rattle.s2_certfile.proofs.ShapeTests.{shape_lem}
use Rattle.s2_mode.specs.Shape.{Shape, IsShape, shape_of, check_count, code_bits}
use Rattle.s2_certfile.specs.declared.fault.CertFault.{CertFault}
use Rattle.s2_certfile.specs.declared.fault.CertFault.TheVariants as faults
use Rattle.s2_certfile.specs.declared.header.FileHeader.{FileHeader}
use Rattle.s2_certfile.specs.declared.version.Version.{Version}
use Rattle.s2_certfile.specs.declared.version.Version.TheVariants as versions
use Rattle.s2_certfile.specs.File.{File}
use Rattle.s2_certfile.specs.Format.{◌>>=◌, is_shape, demand, letter_at, version_at, front_at, number_at, count_at, is_ranged, ranged, header_at, split, body, body_at, file_of, file_of_bytes}
use Rattle.s2_certfile.specs.Limits.{max_shares}
use Rattle.s2_evidence.specs.Pieces.{IsPiece, IsRefusedPiece, Takes, TakesPiece}

-- ---- results whose fault, if there is one, is of some kind

abbrev Whole : (CertFault → Type 0) → {A : Type 0} → Result A CertFault → Type 0
Whole IsFine (Ok x) = Unit {0}
Whole IsFine (Err e) = IsFine e

-- not for the length
abbrev IsOther : CertFault → Type 0
IsOther faults.Cut = ⊥
IsOther faults.Extra = ⊥
IsOther e = Unit {0}

-- not for more bytes
abbrev IsShort : CertFault → Type 0
IsShort faults.Extra = ⊥
IsShort e = Unit {0}

abbrev two : ℕ → ℕ → ℕ
two high low = from_be_bytes w16 (high ∷ low ∷ [])

abbrev four : ℕ → ℕ → ℕ → ℕ → ℕ
four a b c d = from_be_bytes w32 (a ∷ b ∷ c ∷ d ∷ [])

abbrev version_for : ℕ → Version
version_for byte = cond (byte == 1) versions.Listed versions.Moved

of_head : (P : List ℕ → Type 0) → ((b0 b1 b2 b3 b4 b5 b6 b7 b8 b9 b10 b11 b12 b13 b14 b15 b16 : ℕ) (more : List ℕ) → P (b0 ∷ b1 ∷ b2 ∷ b3 ∷ b4 ∷ b5 ∷ b6 ∷ b7 ∷ b8 ∷ b9 ∷ b10 ∷ b11 ∷ b12 ∷ b13 ∷ b14 ∷ b15 ∷ b16 ∷ more)) → (bytes : List ℕ) → 17 ≤ length bytes → P bytes
of_head P h (b0 ∷ b1 ∷ b2 ∷ b3 ∷ b4 ∷ b5 ∷ b6 ∷ b7 ∷ b8 ∷ b9 ∷ b10 ∷ b11 ∷ b12 ∷ b13 ∷ b14 ∷ b15 ∷ b16 ∷ more) long = h b0 b1 b2 b3 b4 b5 b6 b7 b8 b9 b10 b11 b12 b13 b14 b15 b16 more
of_head P h bytes long = absurd (omega arith)

listed_size : (all more n w c d : ℕ) → all ≡ 17 + more → all + d ≡ 17 + (2 * n + w) + 4 * c → more + d ≡ n * 2 + (w + c * 4)
listed_size all more n w c d p q = omega arith

moved_size : (all more n w k d : ℕ) → all ≡ 17 + more → all + d ≡ 13 + (2 * n + w) + 6 * k → more + 4 + d ≡ n * 2 + (w + k * 6)
moved_size all more n w k d p q = omega arith

eq_one : (n : ℕ) → (n == 1) ≡ true → n ≡ 1
eq_one n h = grind (arith, h)

not_one : (n : ℕ) → (n == 1) ≡ false → n ≡ 1 → ⊥
not_one n h e = (let h' = rw e at h in cc)

abbrev bytes_before : Shape → ℕ
bytes_before s = 2 * code_bits s + (code_bits s + 7) / 8

shape_is : (s : Shape) → is_shape s ≡ true → IsShape s
shape_is s h = (shape_lem s).0 h

few_shares : (h : FileHeader) → is_ranged h ≡ true → h.count ≤ max_shares
few_shares h r = leb-true h.count max_shares (and_parts _ _ (and_parts _ _ r).1).1

abbrev pub shape_at : List ℕ → Shape
shape_at head = shape_of (from_be_bytes w16 (take 2 (drop 5 head))) (from_be_bytes w16 (take 2 (drop 7 head))) (from_be_bytes w16 (take 2 (drop 9 head)))

abbrev pub count_in : List ℕ → ℕ
count_in head = from_be_bytes w32 (take 4 (drop 13 head))

-- the bytes are as many as the numbers of their head say, but for some
abbrev pub Fits : ℕ → List ℕ → List ℕ → Type 0
Fits d head bytes =
    ((get_or head 4 0 ≡ 1 → ⊥) → IsShape (shape_at head) → length bytes + d ≡ 13 + bytes_before (shape_at head) + 6 * check_count (shape_at head))
    × (get_or head 4 0 ≡ 1 → IsShape (shape_at head) → count_in head ≤ max_shares → length bytes + d ≡ 17 + bytes_before (shape_at head) + 4 * count_in head)

module _ (IsFine : CertFault → Type 0) (magic : IsFine faults.Magic) (shape_fine : IsFine faults.Shape) (range : IsFine faults.Range) (d : ℕ)
    (fits : (h : FileHeader) (bytes : List ℕ) → length bytes + d ≡ (body h).size → Whole IsFine (body_at h bytes)) where
  bind_bind : {A B C : Type 0} (r : Result A CertFault) (g : A → Result B CertFault) (f : B → Result C CertFault) → Whole IsFine (r >>= λ x. g x >>= f) → Whole IsFine ((r >>= g) >>= f)
  bind_bind (Ok x) g f h = h
  bind_bind (Err e) g f h = h

  letter_then : {A : Type 0} (letter byte : ℕ) (rest : List ℕ) (f : List ℕ → Result A CertFault) → Whole IsFine (f rest) → Whole IsFine (letter_at letter (byte ∷ rest) >>= f)
  letter_then letter byte rest f h =
      elim (cases_Bool (byte == letter)) [ inl same ↦ rw same h | inr other ↦ rw other magic ]

  version_then : {A : Type 0} (byte : ℕ) (rest : List ℕ) (f : Version × List ℕ → Result A CertFault) → Whole IsFine (f (version_for byte, rest)) → Whole IsFine (version_at (byte ∷ rest) >>= f)
  version_then byte rest f h =
      elim (cases_Bool (byte == 1)) [
        | inl same ↦ (let h' = rw same at h in rw same h')
        | inr other ↦ (let h' = rw other at h in elim (cases_Bool (byte == 2)) [ inl two ↦ rw (other, two) h' | inr neither ↦ rw (other, neither) magic ])
      ]

  front_then : {A : Type 0} (b0 b1 b2 b3 b4 : ℕ) (rest : List ℕ) (f : Version × List ℕ → Result A CertFault) → Whole IsFine (f (version_for b4, rest)) → Whole IsFine (front_at (b0 ∷ b1 ∷ b2 ∷ b3 ∷ b4 ∷ rest) >>= f)
  unfolding front_at
  front_then b0 b1 b2 b3 b4 rest f h =
      bind_bind (letter_at 83 (b0 ∷ b1 ∷ b2 ∷ b3 ∷ b4 ∷ rest)) _ f (letter_then 83 b0 (b1 ∷ b2 ∷ b3 ∷ b4 ∷ rest) _
      (bind_bind (letter_at 50 (b1 ∷ b2 ∷ b3 ∷ b4 ∷ rest)) _ f (letter_then 50 b1 (b2 ∷ b3 ∷ b4 ∷ rest) _
      (bind_bind (letter_at 77 (b2 ∷ b3 ∷ b4 ∷ rest)) _ f (letter_then 77 b2 (b3 ∷ b4 ∷ rest) _
      (bind_bind (letter_at 76 (b3 ∷ b4 ∷ rest)) _ f (letter_then 76 b3 (b4 ∷ rest) _
      (version_then b4 rest f h))))))))

  number_then : {A : Type 0} (w : Width) (bytes : List ℕ) (f : ℕ × List ℕ → Result A CertFault) → byte_len w ≤ length bytes
      → Whole IsFine (f (from_be_bytes w (take (byte_len w) bytes), drop (byte_len w) bytes)) → Whole IsFine (number_at w bytes >>= f)
  number_then w bytes f enough h = rw (le-ltb (length bytes) (byte_len w) enough) h

  ranged_then : {A : Type 0} (h : FileHeader) (rest : List ℕ) (f : FileHeader × List ℕ → Result A CertFault)
      → (is_shape h.shape ≡ true → is_ranged h ≡ true → Whole IsFine (f (h, rest))) → Whole IsFine (ranged h rest >>= f)
  ranged_then h rest f k =
      elim (cases_Bool (is_shape h.shape)) [
        | inl shape ↦ elim (cases_Bool (is_ranged h)) [ inl ranged ↦ rw (shape, ranged) (k shape ranged) | inr none ↦ rw (shape, none) range ]
        | inr none ↦ rw none shape_fine
      ]

  header_then : {A : Type 0} (v : Version) (g0 g1 i0 i1 q0 q1 s0 s1 : ℕ) (tail : List ℕ) (f : FileHeader × List ℕ → Result A CertFault)
      → Whole IsFine (count_at v (shape_of (two g0 g1) (two i0 i1) (two q0 q1)) tail >>= λ count. ranged (record { version = v; shape = shape_of (two g0 g1) (two i0 i1) (two q0 q1); scale = two s0 s1; count = count.0 }) count.1 >>= f)
      → Whole IsFine (header_at v (g0 ∷ g1 ∷ i0 ∷ i1 ∷ q0 ∷ q1 ∷ s0 ∷ s1 ∷ tail) >>= f)
  unfolding header_at
  header_then v g0 g1 i0 i1 q0 q1 s0 s1 tail f h =
      let t3 = s0 ∷ s1 ∷ tail in
      let t2 = q0 ∷ q1 ∷ t3 in
      let t1 = i0 ∷ i1 ∷ t2 in
      let t0 = g0 ∷ g1 ∷ t1 in
      bind_bind (number_at w16 t0) _ f (number_then w16 t0 _ (omega arith)
      (bind_bind (number_at w16 t1) _ f (number_then w16 t1 _ (omega arith)
      (bind_bind (number_at w16 t2) _ f (number_then w16 t2 _ (omega arith)
      (bind_bind (number_at w16 t3) _ f (number_then w16 t3 _ (omega arith)
      (bind_bind (count_at v (shape_of (two g0 g1) (two i0 i1) (two q0 q1)) tail) _ f h))))))))

  listed_whole : (b0 b1 b2 b3 b4 b5 b6 b7 b8 b9 b10 b11 b12 b13 b14 b15 b16 : ℕ) (more : List ℕ) → (b4 == 1) ≡ true
      → (IsShape (shape_of (two b5 b6) (two b7 b8) (two b9 b10)) → four b13 b14 b15 b16 ≤ max_shares
      → length more + d ≡ code_bits (shape_of (two b5 b6) (two b7 b8) (two b9 b10)) * 2 + ((code_bits (shape_of (two b5 b6) (two b7 b8) (two b9 b10)) + 7) / 8 + four b13 b14 b15 b16 * 4))
      → Whole IsFine (file_of_bytes (b0 ∷ b1 ∷ b2 ∷ b3 ∷ b4 ∷ b5 ∷ b6 ∷ b7 ∷ b8 ∷ b9 ∷ b10 ∷ b11 ∷ b12 ∷ b13 ∷ b14 ∷ b15 ∷ b16 ∷ more))
  unfolding file_of_bytes
  listed_whole b0 b1 b2 b3 b4 b5 b6 b7 b8 b9 b10 b11 b12 b13 b14 b15 b16 more listed long =
      let shape = shape_of (two b5 b6) (two b7 b8) (two b9 b10) in
      let h : FileHeader = record { version = versions.Listed; shape = shape; scale = two b11 b12; count = four b13 b14 b15 b16 } in
      let tail = b13 ∷ b14 ∷ b15 ∷ b16 ∷ more in
      let f : FileHeader × List ℕ → Result File CertFault = λ header. body_at header.0 header.1 in
      let ranges : Whole IsFine (ranged h more >>= f) = ranged_then h more f (λ s r. fits h more (long (shape_is shape s) (few_shares h r))) in
      let header : Whole IsFine (header_at versions.Listed (b5 ∷ b6 ∷ b7 ∷ b8 ∷ b9 ∷ b10 ∷ b11 ∷ b12 ∷ tail) >>= f) =
      header_then versions.Listed b5 b6 b7 b8 b9 b10 b11 b12 tail f (number_then w32 tail _ (omega arith) ranges) in
      front_then b0 b1 b2 b3 b4 (b5 ∷ b6 ∷ b7 ∷ b8 ∷ b9 ∷ b10 ∷ b11 ∷ b12 ∷ tail) _ (rw listed header)

  moved_whole : (b0 b1 b2 b3 b4 b5 b6 b7 b8 b9 b10 b11 b12 b13 b14 b15 b16 : ℕ) (more : List ℕ) → (b4 == 1) ≡ false
      → (IsShape (shape_of (two b5 b6) (two b7 b8) (two b9 b10))
      → length more + 4 + d ≡ code_bits (shape_of (two b5 b6) (two b7 b8) (two b9 b10)) * 2 + ((code_bits (shape_of (two b5 b6) (two b7 b8) (two b9 b10)) + 7) / 8 + check_count (shape_of (two b5 b6) (two b7 b8) (two b9 b10)) * 6))
      → Whole IsFine (file_of_bytes (b0 ∷ b1 ∷ b2 ∷ b3 ∷ b4 ∷ b5 ∷ b6 ∷ b7 ∷ b8 ∷ b9 ∷ b10 ∷ b11 ∷ b12 ∷ b13 ∷ b14 ∷ b15 ∷ b16 ∷ more))
  unfolding file_of_bytes
  moved_whole b0 b1 b2 b3 b4 b5 b6 b7 b8 b9 b10 b11 b12 b13 b14 b15 b16 more moved long =
      let shape = shape_of (two b5 b6) (two b7 b8) (two b9 b10) in
      let h : FileHeader = record { version = versions.Moved; shape = shape; scale = two b11 b12; count = check_count shape } in
      let tail = b13 ∷ b14 ∷ b15 ∷ b16 ∷ more in
      let f : FileHeader × List ℕ → Result File CertFault = λ header. body_at header.0 header.1 in
      let ranges : Whole IsFine (ranged h tail >>= f) = ranged_then h tail f (λ s r. fits h tail (omega (arith, long (shape_is shape s)))) in
      let header : Whole IsFine (header_at versions.Moved (b5 ∷ b6 ∷ b7 ∷ b8 ∷ b9 ∷ b10 ∷ b11 ∷ b12 ∷ tail) >>= f) =
      header_then versions.Moved b5 b6 b7 b8 b9 b10 b11 b12 tail f ranges in
      front_then b0 b1 b2 b3 b4 (b5 ∷ b6 ∷ b7 ∷ b8 ∷ b9 ∷ b10 ∷ b11 ∷ b12 ∷ tail) _ (rw moved header)

  at_cells : (b0 b1 b2 b3 b4 b5 b6 b7 b8 b9 b10 b11 b12 b13 b14 b15 b16 : ℕ) (more : List ℕ) (all : ℕ) → all ≡ 17 + length more
      → ((b4 ≡ 1 → ⊥) → IsShape (shape_of (two b5 b6) (two b7 b8) (two b9 b10))
      → all + d ≡ 13 + bytes_before (shape_of (two b5 b6) (two b7 b8) (two b9 b10)) + 6 * check_count (shape_of (two b5 b6) (two b7 b8) (two b9 b10)))
      → (b4 ≡ 1 → IsShape (shape_of (two b5 b6) (two b7 b8) (two b9 b10)) → four b13 b14 b15 b16 ≤ max_shares
      → all + d ≡ 17 + bytes_before (shape_of (two b5 b6) (two b7 b8) (two b9 b10)) + 4 * four b13 b14 b15 b16)
      → Whole IsFine (file_of_bytes (b0 ∷ b1 ∷ b2 ∷ b3 ∷ b4 ∷ b5 ∷ b6 ∷ b7 ∷ b8 ∷ b9 ∷ b10 ∷ b11 ∷ b12 ∷ b13 ∷ b14 ∷ b15 ∷ b16 ∷ more))
  at_cells b0 b1 b2 b3 b4 b5 b6 b7 b8 b9 b10 b11 b12 b13 b14 b15 b16 more all size moved listed =
      let s = shape_of (two b5 b6) (two b7 b8) (two b9 b10) in
      let n = code_bits s in
      elim (cases_Bool (b4 == 1)) [
        | inl one ↦ listed_whole b0 b1 b2 b3 b4 b5 b6 b7 b8 b9 b10 b11 b12 b13 b14 b15 b16 more one (λ shaped few. listed_size all (length more) n ((n + 7) / 8) (four b13 b14 b15 b16) d size (listed (eq_one b4 one) shaped few))
        | inr other ↦ moved_whole b0 b1 b2 b3 b4 b5 b6 b7 b8 b9 b10 b11 b12 b13 b14 b15 b16 more other (λ shaped. moved_size all (length more) n ((n + 7) / 8) (check_count s) d size (moved (not_one b4 other) shaped))
      ]

  of_itself : (bytes : List ℕ) → 17 ≤ length bytes → Fits d (take 17 bytes) bytes → Whole IsFine (file_of_bytes bytes)
  of_itself bytes long =
      of_head (λ bytes. Fits d (take 17 bytes) bytes → Whole IsFine (file_of_bytes bytes)) (λ b0 b1 b2 b3 b4 b5 b6 b7 b8 b9 b10 b11 b12 b13 b14 b15 b16 more fit. at_cells b0 b1 b2 b3 b4 b5 b6 b7 b8 b9 b10 b11 b12 b13 b14 b15 b16 more (length (b0 ∷ b1 ∷ b2 ∷ b3 ∷ b4 ∷ b5 ∷ b6 ∷ b7 ∷ b8 ∷ b9 ∷ b10 ∷ b11 ∷ b12 ∷ b13 ∷ b14 ∷ b15 ∷ b16 ∷ more)) (omega arith) fit.0 fit.1) bytes long

  headed_whole : (bytes head : List ℕ) → take 17 bytes ≡ head → 17 ≤ length bytes → Fits d head bytes → Whole IsFine (file_of_bytes bytes)
  headed_whole bytes head front long fit = of_itself bytes long (subst (λ h. Fits d h bytes) (sym front) fit)

-- ---- the body

either_whole : (IsFine : CertFault → Type 0) {A : Type 0} (b : Bool) (x y : Result A CertFault) → Whole IsFine x → Whole IsFine y → Whole IsFine (cond b x y)
either_whole IsFine true x y h k = h
either_whole IsFine false x y h k = k

body_whole : (h : FileHeader) (bytes : List ℕ) → length bytes + 0 ≡ (body h).size → Whole IsOther (body_at h bytes)
body_whole h bytes long =
    let enough : leb (body h).size (length bytes) ≡ true = le-leb _ _ (omega (arith, long)) in
    let no_more : leb (length bytes) (body h).size ≡ true = le-leb _ _ (omega (arith, long)) in
    rw (enough, no_more) (either_whole IsOther ((body h).test bytes) (Ok (file_of h ((body h).value bytes))) (Err faults.Range) tt tt)

body_short : (h : FileHeader) (bytes : List ℕ) → length bytes ≤ (body h).size → Whole IsShort (body_at h bytes)
body_short h bytes few =
    let no_more : leb (length bytes) (body h).size ≡ true = le-leb _ _ few in
    rw no_more (either_whole IsShort (leb (body h).size (length bytes)) _ (Err faults.Cut) (either_whole IsShort ((body h).test bytes) (Ok (file_of h ((body h).value bytes))) (Err faults.Range) tt tt) tt)

-- ---- few bytes, of any length

bind_short : {A B C : Type 0} (r : Result A CertFault) (g : A → Result B CertFault) (f : B → Result C CertFault) → Whole IsShort (r >>= λ x. g x >>= f) → Whole IsShort ((r >>= g) >>= f)
bind_short (Ok x) g f h = h
bind_short (Err e) g f h = h

letter_any : {A : Type 0} (letter : ℕ) (bytes : List ℕ) (f : List ℕ → Result A CertFault) → ((rest : List ℕ) → length bytes ≡ 1 + length rest → Whole IsShort (f rest)) → Whole IsShort (letter_at letter bytes >>= f)
letter_any letter [] f k = tt
letter_any letter (byte ∷ rest) f k =
    elim (cases_Bool (byte == letter)) [ inl same ↦ rw same (k rest (omega arith)) | inr other ↦ rw other tt ]

version_any : {A : Type 0} (bytes : List ℕ) (f : Version × List ℕ → Result A CertFault) → ((v : Version) (rest : List ℕ) → length bytes ≡ 1 + length rest → Whole IsShort (f (v, rest))) → Whole IsShort (version_at bytes >>= f)
version_any [] f k = tt
version_any (byte ∷ rest) f k =
    elim (cases_Bool (byte == 1)) [
      | inl same ↦ rw same (k versions.Listed rest (omega arith))
      | inr other ↦ elim (cases_Bool (byte == 2)) [ inl two ↦ rw (other, two) (k versions.Moved rest (omega arith)) | inr neither ↦ rw (other, neither) tt ]
    ]

front_any : {A : Type 0} (bytes : List ℕ) (f : Version × List ℕ → Result A CertFault) → ((v : Version) (rest : List ℕ) → length bytes ≡ 5 + length rest → Whole IsShort (f (v, rest))) → Whole IsShort (front_at bytes >>= f)
unfolding front_at
front_any bytes f k =
    bind_short (letter_at 83 bytes) _ f (letter_any 83 bytes _ (λ r1 e1.
    bind_short (letter_at 50 r1) _ f (letter_any 50 r1 _ (λ r2 e2.
    bind_short (letter_at 77 r2) _ f (letter_any 77 r2 _ (λ r3 e3.
    bind_short (letter_at 76 r3) _ f (letter_any 76 r3 _ (λ r4 e4.
    version_any r4 f (λ v rest e5. k v rest (omega (arith, e1, e2, e3, e4, e5)))))))))))

number_any : {A : Type 0} (w : Width) (bytes : List ℕ) (f : ℕ × List ℕ → Result A CertFault) → ((n : ℕ) (rest : List ℕ) → byte_len w + length rest ≡ length bytes → Whole IsShort (f (n, rest))) → Whole IsShort (number_at w bytes >>= f)
number_any w bytes f k =
    elim (cases_Bool (ltb (length bytes) (byte_len w))) [
      | inl few ↦ rw few tt
      | inr enough ↦ rw enough (k _ (drop (byte_len w) bytes) (omega (arith, length-drop (byte_len w) bytes, ltb-false (length bytes) (byte_len w) enough)))
    ]

count_any : {A : Type 0} (v : Version) (s : Shape) (bytes : List ℕ) (f : ℕ × List ℕ → Result A CertFault) → ((n : ℕ) (rest : List ℕ) → length rest ≤ length bytes → Whole IsShort (f (n, rest))) → Whole IsShort (count_at v s bytes >>= f)
count_any versions.Listed s bytes f k = number_any w32 bytes f (λ n rest e. k n rest (omega (arith, e)))
count_any versions.Moved s bytes f k = k (check_count s) bytes (omega arith)

ranged_any : {A : Type 0} (h : FileHeader) (rest : List ℕ) (f : FileHeader × List ℕ → Result A CertFault) → (is_shape h.shape ≡ true → Whole IsShort (f (h, rest))) → Whole IsShort (ranged h rest >>= f)
ranged_any h rest f k =
    elim (cases_Bool (is_shape h.shape)) [
      | inl shape ↦ elim (cases_Bool (is_ranged h)) [ inl range ↦ rw (shape, range) (k shape) | inr none ↦ rw (shape, none) tt ]
      | inr none ↦ rw none tt
    ]

header_any : {A : Type 0} (v : Version) (bytes : List ℕ) (f : FileHeader × List ℕ → Result A CertFault)
    → ((h : FileHeader) (rest : List ℕ) → 8 + length rest ≤ length bytes → is_shape h.shape ≡ true → Whole IsShort (f (h, rest))) → Whole IsShort (header_at v bytes >>= f)
unfolding header_at
header_any v bytes f k =
    bind_short (number_at w16 bytes) _ f (number_any w16 bytes _ (λ g r1 e1.
    bind_short (number_at w16 r1) _ f (number_any w16 r1 _ (λ i r2 e2.
    bind_short (number_at w16 r2) _ f (number_any w16 r2 _ (λ q r3 e3.
    bind_short (number_at w16 r3) _ f (number_any w16 r3 _ (λ s r4 e4.
    bind_short (count_at v (shape_of g i q) r4) _ f (count_any v (shape_of g i q) r4 _ (λ c r5 e5.
    ranged_any (record { version = v; shape = shape_of g i q; scale = s; count = c }) r5 f (λ shape. k _ r5 (omega (arith, e1, e2, e3, e4, e5)) shape)))))))))))

two_bits : (s : Shape) → IsShape s → 2 ≤ code_bits s
two_bits s h =
    let sum : 2 ≤ s.groups + s.q = omega (arith, h.groups_some, h.q_some) in
    let all : 1 * 2 ≤ s.group * (s.groups + s.q) = mul-le-mul h.group_some sum in
    omega (arith, all)

at_least : (n w x rest : ℕ) → 2 ≤ n → rest ≤ 4 → rest ≤ n * 2 + (w + x)
at_least n w x rest p q = omega arith

-- at most 17 bytes are not more than a header says
few_short : (bytes : List ℕ) → length bytes ≤ 17 → Whole IsShort (file_of_bytes bytes)
unfolding file_of_bytes
few_short bytes few =
    front_any bytes _ (λ v rest e. header_any v rest _ (λ h more long shape.
    body_short h more (at_least (code_bits h.shape) ((code_bits h.shape + 7) / 8) (split h.version h.count).size (length more) (two_bits h.shape (shape_is h.shape shape)) (omega (arith, few, e, long)))))

-- ---- what the readers say

not_extra : (bytes : List ℕ) → Whole IsShort (file_of_bytes bytes) → file_of_bytes bytes ≢ Err faults.Extra
not_extra bytes h e = subst (Whole IsShort) e h

not_cut : (bytes : List ℕ) → Whole IsOther (file_of_bytes bytes) → file_of_bytes bytes ≢ Err faults.Cut
not_cut bytes h e = subst (Whole IsOther) e h

-- few bytes are not too many
pub few : (bytes : List ℕ) → length bytes ≤ 17 → file_of_bytes bytes ≢ Err faults.Extra
few bytes h = not_extra bytes (few_short bytes h)

-- bytes with this head, as many as its numbers say, but for some
pub headed : (bytes head : List ℕ) (d : ℕ) → take 17 bytes ≡ head → 17 ≤ length bytes → Fits d head bytes → IsPiece bytes d
headed bytes head d front long fit = record {
  no_more = not_extra bytes (headed_whole IsShort tt tt tt d (λ h xs size. body_short h xs (omega (arith, size))) bytes head front long fit);
  enough = λ none. not_cut bytes (headed_whole IsOther tt tt tt 0 body_whole bytes head front long (subst (λ k. Fits k head bytes) none fit));
}

-- the head of a certificate, and what follows it
pub read_both : (r r' r'' : Option (List ℕ)) (head n : ℕ) (one two : List ℕ) → head ≡ 17 → 17 ≤ n → take 17 two ≡ take 17 one
    → Consumes r r' (drop 0 (take head one)) → Consumes r' r'' (drop 17 (take n two)) → Consumes r r'' (take n two)
read_both r r' r'' head n one two all more same first second =
    let front : drop 0 (take head one) ≡ take 17 (take n two) = ap (λ k. take k one) all ∙ sym same ∙ sym (take-take 17 n two more) in
    subst (Consumes r r'') (ap (λ xs. xs ++ drop 17 (take n two)) front ∙ take-append-drop 17 (take n two)) (Consumes-trans r r' r'' _ _ first second)

-- fewer bytes than wanted are the last ones
pub cut_at_end : (bytes : List ℕ) (n size : ℕ) (End : Type 0) → n ≤ size → (n < size → End) → IsPiece bytes (size - n) → file_of_bytes bytes ≡ Err faults.Cut → End
cut_at_end bytes n size End most ends piece cut =
    elim (cases_Bool (ltb n size)) [ inl less ↦ ends (ltb-true n size less) | inr all ↦ absurd (piece.enough (omega (arith, ltb-false n size all, most)) cut) ]

none_cut : file_of_bytes [] ≡ Err faults.Cut
unfolding file_of_bytes front_at
none_cut = refl

-- no bytes are cut
pub none_left : (buffer : List ℕ) (n : ℕ) (End : Type 0) → n ≡ 0 → (file_of_bytes (take n buffer) ≡ Err faults.Cut → End) → End
none_left buffer n End none ends = ends (ap (λ k. file_of_bytes (take k buffer)) none ∙ none_cut)

pub no_bytes : (r r' : Option (List ℕ)) (buffer : List ℕ) (n : ℕ) → n ≡ 0 → Consumes r r' (take n buffer) → Consumes r r' []
no_bytes r r' buffer n none h = subst (λ k. Consumes r r' (take k buffer)) none h

-- the fault of bytes that are refused is that of the reader
pub refuses : (r r' : Option (List ℕ)) (bytes : List ℕ) (f : Fault) → Consumes r r' bytes → file_of_bytes bytes ≢ Err faults.Extra → (file_of_bytes bytes ≡ Err faults.Cut → IsAtEnd r')
    → Follows {V = File} (λ x. x) (Err f) (certificate_said (file_of_bytes bytes)) → f ≢ console_faults.Write → TakesPiece r r' (Err f)
refuses r r' bytes console_faults.Write took no_more last said other = absurd (other refl)
refuses r r' bytes console_faults.Read took no_more last said other = (bytes, took, tt)
refuses r r' bytes console_faults.NoMemory took no_more last said other = (bytes, took, tt)
refuses r r' bytes (console_faults.Open name) took no_more last said other = (bytes, took, record { said = said; no_more = no_more; last = last })
refuses r r' bytes (console_faults.UsedTwice name) took no_more last said other = (bytes, took, record { said = said; no_more = no_more; last = last })
refuses r r' bytes console_faults.TooLong took no_more last said other = (bytes, took, record { said = said; no_more = no_more; last = last })
refuses r r' bytes (console_faults.Rows words) took no_more last said other = (bytes, took, record { said = said; no_more = no_more; last = last })
refuses r r' bytes (console_faults.Refused words) took no_more last said other = (bytes, took, record { said = said; no_more = no_more; last = last })

pub numbers_same : (a b c a' b' c' : ℕ) → a ≡ a' → b ≡ b' → c ≡ c' → shape_of a b c ≡ shape_of a' b' c'
numbers_same a b c a' b' c' p q r = ap (λ x. shape_of x b c) p ∙ ap (λ x. shape_of a' x c) q ∙ ap (shape_of a' b') r

pub over_count : (n m : ℕ) → n ≡ m → 1555200 < n → m ≤ 1555200 → ⊥
over_count n m p q r = omega arith

pub takes_more : (r r' r'' : Option (List ℕ)) (bytes : List ℕ) → Consumes r r' bytes → Takes r' r'' → Takes r r''
takes_more r r' r'' bytes first (more, second) = (bytes ++ more, Consumes-trans r r' r'' bytes more first second)

pub read_faults : (r r' : Option (List ℕ)) (f : Fault) → Takes r r' → f ≡ console_faults.Read → TakesPiece r r' (Err f)
read_faults r r' f (bytes, took) is = subst (λ (e : Fault). TakesPiece r r' (Err e)) (sym is) (bytes, took, tt)

pub on_err : {T E : Type 0} (r : Result T E) (P : Type 0) → P → OnErr r P
on_err (Ok x) P h = tt
on_err (Err e) P h = h
