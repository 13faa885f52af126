-- No reader of the front or the header wants memory.
use Rattle.std.proofs.Common.{◌≡◌, ℕ, Bool, true, false, cond, List, [], ◌∷◌, length, Result, Ok, Err, subst, ap, ◌∙◌}
use Rattle.std.specs.Prelude.{nat_lt, ◌==◌}
use Rattle.std.specs.Int.{Width, w16, w32, byte_len}
use Rattle.s2_mode.specs.Shape.{Shape, shape_of}
use Rattle.s2_certfile.specs.declared.fault.CertFault.{CertFault}
use Rattle.s2_certfile.specs.declared.fault.CertFault.TheVariants as faults
use Rattle.s2_certfile.specs.declared.header.FileHeader.{FileHeader}
use Rattle.s2_certfile.specs.declared.version.Version.{Version}
use Rattle.s2_certfile.specs.declared.version.Version.TheVariants as versions
use Rattle.s2_certfile.specs.File.{File}
use Rattle.s2_certfile.specs.Format.{◌>>=◌, is_shape, demand, letter_at, version_at, front_at, number_at, count_at, is_ranged, ranged, header_at, body_at, file_of_bytes}
use Rattle.s2_certfile.specs.Answers.{FileAnswer}

abbrev IsOther : CertFault → Type 0
IsOther faults.NoMemory = ⊥
IsOther e = Unit {0}

abbrev WantsNone : {A : Type 0} → Result A CertFault → Type 0
WantsNone (Ok x) = Unit {0}
WantsNone (Err e) = IsOther e

bind_none : {A B : Type 0} (r : Result A CertFault) (f : A → Result B CertFault) → WantsNone r → ((x : A) → WantsNone (f x)) → WantsNone (r >>= f)
bind_none (Ok x) f h g = g x
bind_none (Err e) f h g = h

either_none : {A : Type 0} (b : Bool) (x y : Result A CertFault) → WantsNone x → WantsNone y → WantsNone (cond b x y)
either_none true x y h k = h
either_none false x y h k = k

letter_none : (letter : ℕ) (bytes : List ℕ) → WantsNone (letter_at letter bytes)
letter_none letter [] = tt
letter_none letter (byte ∷ rest) = either_none (byte == letter) (Ok rest) (Err faults.Magic) tt tt

version_none : (bytes : List ℕ) → WantsNone (version_at bytes)
version_none [] = tt
version_none (byte ∷ rest) =
    either_none (byte == 1) (Ok (versions.Listed, rest)) _ tt (either_none (byte == 2) (Ok (versions.Moved, rest)) (Err faults.Magic) tt tt)

front_none : (bytes : List ℕ) → WantsNone (front_at bytes)
unfolding front_at
front_none bytes =
    bind_none (letter_at 83 bytes) _ (letter_none 83 bytes) (λ s. bind_none (letter_at 50 s) _ (letter_none 50 s) (λ two. bind_none (letter_at 77 two) _ (letter_none 77 two) (λ m. bind_none (letter_at 76 m) _ (letter_none 76 m) (λ l. version_none l))))

number_none : (w : Width) (bytes : List ℕ) → WantsNone (number_at w bytes)
number_none w bytes = either_none (nat_lt (length bytes) (byte_len w)) (Err faults.Cut) _ tt tt

count_none : (v : Version) (s : Shape) (bytes : List ℕ) → WantsNone (count_at v s bytes)
count_none versions.Listed s bytes = number_none w32 bytes
count_none versions.Moved s bytes = tt

ranged_none : (h : FileHeader) (rest : List ℕ) → WantsNone (ranged h rest)
ranged_none h rest =
    either_none (is_shape h.shape) (demand (is_ranged h) faults.Range (Ok (h, rest))) (Err faults.Shape) (either_none (is_ranged h) (Ok (h, rest)) (Err faults.Range) tt tt) tt

header_none : (v : Version) (bytes : List ℕ) → WantsNone (header_at v bytes)
unfolding header_at
header_none v bytes =
    bind_none (number_at w16 bytes) _ (number_none w16 bytes) (λ g. bind_none (number_at w16 g.1) _ (number_none w16 g.1) (λ i. bind_none (number_at w16 i.1) _ (number_none w16 i.1) (λ q. bind_none (number_at w16 q.1) _ (number_none w16 q.1) (λ s. bind_none (count_at v (shape_of g.0 i.0 q.0) s.1) _ (count_none v (shape_of g.0 i.0 q.0) s.1) (λ c. ranged_none (record { version = v; shape = shape_of g.0 i.0 q.0; scale = s.0; count = c.0 }) c.1)))))

as_answer : {V : Type 0} (view : V → File) (e : CertFault) (read : Result File CertFault) → IsOther e → read ≡ Err e → FileAnswer view (Err e) read
as_answer view faults.Magic read h p = p
as_answer view faults.Cut read h p = p
as_answer view faults.Extra read h p = p
as_answer view faults.Range read h p = p
as_answer view faults.Shape read h p = p
as_answer view faults.NoMemory read h p = absurd h

other : {A : Type 0} (r : Result A CertFault) (e : CertFault) → WantsNone r → r ≡ Err e → IsOther e
other r e h p = subst WantsNone p h

then : {A B : Type 0} (r : Result A CertFault) (e : CertFault) (f : A → Result B CertFault) → r ≡ Err e → (r >>= f) ≡ Err e
then r e f p = ap (λ x. x >>= f) p

-- the front's refusal is the file's
pub front_refuses : {V : Type 0} (view : V → File) (bytes : List ℕ) (e : CertFault) → front_at bytes ≡ Err e → FileAnswer view (Err e) (file_of_bytes bytes)
unfolding file_of_bytes
front_refuses view bytes e p =
    as_answer view e (file_of_bytes bytes) (other (front_at bytes) e (front_none bytes) p) (then (front_at bytes) e (λ f. header_at f.0 f.1 >>= λ h. body_at h.0 h.1) p)

-- and so is the header's
pub header_refuses : {V : Type 0} (view : V → File) (bytes : List ℕ) (v : Version) (rest : List ℕ) (e : CertFault) → front_at bytes ≡ Ok (v, rest) → header_at v rest ≡ Err e → FileAnswer view (Err e) (file_of_bytes bytes)
unfolding file_of_bytes
header_refuses view bytes v rest e front p =
    as_answer view e (file_of_bytes bytes) (other (header_at v rest) e (header_none v rest) p) (ap (λ x. x >>= λ f. header_at f.0 f.1 >>= λ h. body_at h.0 h.1) front ∙ then (header_at v rest) e (λ h. body_at h.0 h.1) p)
