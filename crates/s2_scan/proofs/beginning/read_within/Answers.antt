use Rattle.std.proofs.Common.{◌≡◌, ◌≤◌, ◌-◌, ◌++◌, ◌<◌, List, ℕ, take, drop, length, length-append, length-drop, length-take, sym, subst, inl, inr, arith}
use Rattle.std.specs.Io.KnownBytes.{Consumes}
use Rattle.std.specs.Prelude.{Some}
use Rattle.std.proofs.lemmas.Bool.{cases_lt}
use Rattle.std.proofs.lemmas.List.{length-take-le, take-append-le}
use Rattle.s2_scan.specs.Beginnings.{begin_of}
use Rattle.s2_scan.proofs.Beginnings.{begins_done, begins_end, begins_on}
use Rattle.s2_scan.proofs.beginning.read_within.Goals as goal

pub returns-in-Ok-clause-bytes : goal.returns-in-Ok-clause-bytes
returns-in-Ok-clause-bytes g c =
    let old = g.R.CountedRead.remaining c.args.reader.now in
    let new = g.R.CountedRead.remaining c.read.new.self in
    let n = c.in-Ok.n in
    let left = c.args.left.now in
    let part = c.read.new.buf in
    let buf = c.args.buf.now in
    let room = c.min-room.result in
    let got = c.in-Ok.ensures.bytes in
    let bound : n ≤ length part = c.in-Ok.ensures.bound in
    let size : length part ≡ room = omega (arith, c.min-room.ensures, length-take room buf) in
    let few : n ≤ left = omega (arith, size, bound, c.min-room.ensures) in
    let front : take n (part ++ drop room buf) ≡ take n part = take-append-le n part (drop room buf) bound in (
      subst (λ (xs : List ℕ). Consumes (begin_of (Some left) old) (begin_of (Some (left - n)) new) xs) (sym front) (begins_on left n old new (take n part) (length-take-le n part bound) few got.0),
      λ none some. elim (cases_lt 0 (length part)) [
        | inl more ↦ begins_end (left - n) new (got.1 none more)
        | inr past ↦ begins_done (left - n) new (omega (arith, size, past, some, c.min-room.ensures, length-append part (drop room buf), length-drop room buf))
      ],
    )
