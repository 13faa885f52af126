-- What is written is read back.
use Rattle.std.proofs.Common.{◌≡◌, ℕ, ◌+◌, ◌*◌, ◌^◌, ◌<◌, ◌≤◌, ltb, true, false, Bool, ℤ, List, ◌++◌, length, Ok, mul-le-mul, refl, sym, ap, ◌∙◌, arith, length-append, le-leb}
use Rattle.std.specs.Int.{Width, w16, w32, byte_len, to_be_bytes, from_be_bytes}
use Rattle.std.proofs.lemmas.Bool.{and_from, le-ltb}
use Rattle.std.proofs.lemmas.List.{take_at, drop_at}
use Rattle.std.proofs.lemmas.Nat.{from_be_bytes-to_be_bytes_2, from_be_bytes-to_be_bytes_4}
use Rattle.s2_mode.specs.Shape.{Shape, IsShape}
use Rattle.s2_certfile.specs.Limits.{max_scale, max_shares}
use Rattle.s2_certfile.specs.declared.fault.CertFault.TheVariants as faults
use Rattle.s2_certfile.proofs.ShapeTests.{shape_passes}
use Rattle.s2_certfile.specs.declared.header.FileHeader.{FileHeader}
use Rattle.s2_certfile.specs.declared.version.Version.{Version}
use Rattle.s2_certfile.specs.declared.version.Version.TheVariants as versions
use Rattle.s2_certfile.specs.File.{File, Split, Listed, Moved, IsFile, IsSplit}
use Rattle.s2_certfile.specs.Format.{◌>>=◌, is_shape, demand, front_at, number_at, count_at, is_ranged, ranged, header_at, body, body_at, file_of, file_of_bytes, IsCount, IsHeader, version_of, count_of, count_bytes, header_bytes, header_of, ReadBackLaw}
use Rattle.s2_certfile.proofs.Bodies.{body_accepted}
use Rattle.s2_certfile.proofs.Fields.{IsOf, IsBody, body_is}

number_again : (w : Width) (n : ℕ) (rest : List ℕ) → length (to_be_bytes w n) ≡ byte_len w → from_be_bytes w (to_be_bytes w n) ≡ n → number_at w (to_be_bytes w n ++ rest) ≡ Ok (n, rest)
number_again w n rest long again =
    let enough : ltb (length (to_be_bytes w n ++ rest)) (byte_len w) ≡ false = le-ltb _ _ (omega (arith, long, length-append (to_be_bytes w n) rest)) in
    rw (enough, take_at (to_be_bytes w n) rest (byte_len w) long, drop_at (to_be_bytes w n) rest (byte_len w) long, again) refl

two_again : (n : ℕ) (rest : List ℕ) → n < 2 ^ 16 → number_at w16 (to_be_bytes w16 n ++ rest) ≡ Ok (n, rest)
two_again n rest h = number_again w16 n rest refl (from_be_bytes-to_be_bytes_2 n h)

count_again : (v : Version) (s : Shape) (n : ℕ) (rest : List ℕ) → IsCount v s n → n ≤ max_shares → count_at v s (count_bytes v n ++ rest) ≡ Ok (n, rest)
count_again versions.Moved s n rest h few = ap (λ k. Ok (k, rest)) (sym h)
count_again versions.Listed s n rest h few = number_again w32 n rest refl (from_be_bytes-to_be_bytes_4 n (omega (arith, few)))

-- what follows the front
abbrev numbers : FileHeader → List ℕ → List ℕ
numbers h rest =
    to_be_bytes w16 h.shape.group ++ (to_be_bytes w16 h.shape.groups ++ (to_be_bytes w16 h.shape.q ++ (to_be_bytes w16 h.scale ++ (count_bytes h.version h.count ++ rest))))

front_again : (v : Version) (s : Shape) (scale count : ℕ) (rest : List ℕ) → front_at (header_bytes (record { version = v; shape = s; scale = scale; count = count }) ++ rest) ≡ Ok (v, numbers (record { version = v; shape = s; scale = scale; count = count }) rest)
unfolding front_at
front_again versions.Listed s scale count rest = refl
front_again versions.Moved s scale count rest = refl

shape_small : (s : Shape) → IsShape s → (s.group < 2 ^ 16) × (s.groups < 2 ^ 16) × (s.q < 2 ^ 16)
shape_small s h =
    let same : s.groups + s.q ≤ s.groups + s.q = omega arith in
    let whole : 1 * (s.groups + s.q) ≤ s.group * (s.groups + s.q) = mul-le-mul h.group_some same in
    (omega (arith, h.group_most), omega (arith, whole, h.few), omega (arith, whole, h.few))

ranged_again : (h : FileHeader) (rest : List ℕ) → IsHeader h → ranged h rest ≡ Ok (h, rest)
ranged_again h rest p =
    let shape : is_shape h.shape ≡ true = shape_passes h.shape p.shaped in
    let range : is_ranged h ≡ true = and_from _ _ (le-leb 1 h.scale p.scale_some) (and_from _ _ (le-leb h.scale max_scale p.scale_most) (le-leb h.count max_shares p.few)) in
    ap (λ b. demand b faults.Shape (demand (is_ranged h) faults.Range (Ok (h, rest)))) shape ∙ ap (λ b. demand b faults.Range (Ok (h, rest))) range

header_again : (h : FileHeader) (rest : List ℕ) → IsHeader h → header_at h.version (numbers h rest) ≡ Ok (h, rest)
unfolding header_at
header_again h rest p =
    let small = shape_small h.shape p.shaped in
    let tail = count_bytes h.version h.count ++ rest in
    let t3 = to_be_bytes w16 h.scale ++ tail in
    let t2 = to_be_bytes w16 h.shape.q ++ t3 in
    let t1 = to_be_bytes w16 h.shape.groups ++ t2 in
    rw (two_again h.shape.group t1 small.0, two_again h.shape.groups t2 small.1, two_again h.shape.q t3 small.2, two_again h.scale tail (omega (arith, p.scale_most)), count_again h.version h.shape h.count rest p.counted p.few) (ranged_again h rest p)

body_again : (h : FileHeader) (x : List ℤ × (List Bool × Split)) → IsBody h x → body_at h ((body h).bytes x) ≡ Ok (file_of h x)
body_again h x p =
    let b = body_is h in
    body_accepted h ((body h).bytes x) (b.long x p) (b.passes x p) ∙ ap (λ y. Ok (file_of h y)) (b.back x p)

-- the split of a file is of its version and as long as its header says
split_of_file : (s : Shape) (x : Split) → IsSplit s x → IsOf (version_of x) (count_of x) x
split_of_file s (Listed xs) h = (refl, h.1)
split_of_file s (Moved ms) h = (refl, h.1)

-- a shape has no more checks than places
count_few : (s : Shape) (x : Split) → IsShape s → IsSplit s x → count_of x ≤ max_shares
count_few s (Listed xs) shaped h = h.0
count_few s (Moved ms) shaped h =
    let same : s.group ≤ s.group = omega arith in
    let part : s.q ≤ s.groups + s.q = omega arith in
    let all : s.group * s.q ≤ s.group * (s.groups + s.q) = mul-le-mul same part in
    omega (arith, all, shaped.few, h.0)

count_is : (s : Shape) (x : Split) → IsSplit s x → IsCount (version_of x) s (count_of x)
count_is s (Listed xs) h = tt
count_is s (Moved ms) h = h.0

pub header_of_file : (f : File) → IsFile f → IsHeader (header_of f)
header_of_file f h = record {
  shaped = h.shaped;
  scale_some = h.scale_some;
  scale_most = h.scale_most;
  few = count_few f.shape f.split h.shaped h.split;
  counted = count_is f.shape f.split h.split;
}

pub read_back_lem : ReadBackLaw
unfolding file_of_bytes
read_back_lem f p =
    let h = header_of f in
    let x : List ℤ × (List Bool × Split) = (f.soft, (f.bits, f.split)) in
    let rest = (body h).bytes x in
    let front = front_again h.version h.shape h.scale h.count rest in
    let header = header_again h rest (header_of_file f p) in
    let body' = body_again h x ((p.soft_long, p.soft_range), (p.bits_long, split_of_file f.shape f.split p.split)) in
    ap (λ r. r >>= λ f. header_at f.0 f.1 >>= λ h. body_at h.0 h.1) front ∙ ap (λ r. r >>= λ h. body_at h.0 h.1) header ∙ body'
