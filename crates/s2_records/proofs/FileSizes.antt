-- How many bytes the file of a certificate has.
use Rattle.std.proofs.Common.{◌≡◌, ℕ, ◌≤◌, List, Bool, ℤ, length, refl, arith, length-append, lit≤}
use Rattle.s2_mode.specs.Shape.{IsShape, Shape, code_bits}
use Rattle.s2_certfile.specs.File.{File, IsFile, IsSplit, Listed, Moved, Split}
use Rattle.s2_certfile.specs.Format.{body, bytes_of as bytes_of_file, count_of, header_bytes, header_of, version_of}
use Rattle.s2_certfile.specs.Limits.{max_shares}
use Rattle.s2_certfile.specs.declared.version.Version.{Version}
use Rattle.s2_certfile.specs.declared.version.Version.TheVariants as versions
use Rattle.s2_certfile.proofs.Fields.{IsOf, body_is}
use Rattle.s2_certfile.proofs.ReadAgain.{header_of_file}
use Rattle.s2_check.specs.CertificateBytes.{bytes_of, file_of}
use Rattle.s2_check.specs.Views.{IsView, View}
use Rattle.s2_check.proofs.ViewFiles.{file_fits}
use Rattle.s2_stitch.specs.Records.{max_certificate}

-- the split of a file has the version and the count of its header
split_of : (s : Shape) (x : Split) → IsSplit s x → IsOf (version_of x) (count_of x) x
split_of s (Listed xs) h = (refl, h.1)
split_of s (Moved ms) h = (refl, h.1)

-- a header has at most 17 bytes
header_few : (v : Version) (s : Shape) (scale count : ℕ) → length (header_bytes (record { version = v; shape = s; scale = scale; count = count })) ≤ 17
header_few versions.Listed s scale count = lit≤ tt
header_few versions.Moved s scale count = lit≤ tt

-- two bytes for each soft value, one for eight bits, and at most six for each share or move
body_few : (v : Version) (s : Shape) (scale count : ℕ) → IsShape s → count ≤ max_shares → (body (record { version = v; shape = s; scale = scale; count = count })).size ≤ 9500000
body_few versions.Listed s scale count shaped few = let n = code_bits s in let bits : n ≤ 64800 = shaped.few in omega (arith, bits, few)
body_few versions.Moved s scale count shaped few = let n = code_bits s in let bits : n ≤ 64800 = shaped.few in omega (arith, bits, few)

file_few : (f : File) → IsFile f → length (bytes_of_file f) ≤ max_certificate
file_few f is =
    let h = header_of f in
    let x : List ℤ × (List Bool × Split) = (f.soft, (f.bits, f.split)) in
    let long : length ((body h).bytes x) ≡ (body h).size = (body_is h).long x ((is.soft_long, is.soft_range), (is.bits_long, split_of f.shape f.split is.split)) in
    let front = header_few h.version h.shape h.scale h.count in
    let rest = body_few h.version h.shape h.scale h.count is.shaped (header_of_file f is).few in
    omega (arith, length-append (header_bytes h) ((body h).bytes x), long, front, rest)

-- the file of a view fits into a record
pub view_few : (v : View) → IsView v → length (bytes_of v) ≤ max_certificate
view_few v is = file_few (file_of v) (file_fits v is)
