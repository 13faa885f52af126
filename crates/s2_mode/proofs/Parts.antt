-- Two lists of bytes, of which one was written in part.
use Rattle.std.proofs.Common.{ℕ, ◌+◌, List, ◌++◌, Option, length, take, sym, subst, length-append, arith}
use Rattle.std.proofs.Math.Seq.{take-append-add}
use Rattle.std.proofs.KnownBytes.{Appends-trans}
use Rattle.std.specs.Io.KnownBytes.{Appends}
use Rattle.std.proofs.lemmas.List.{take-append-le}
use Rattle.s2_mode.specs.Pieces.{AppendsPart}

-- the first was
pub part_first : (a b : Option (List ℕ)) (xs ys : List ℕ) → AppendsPart xs a b → AppendsPart (xs ++ ys) a b
part_first a b xs ys p =
    (p.0, omega (arith, p.1, length-append xs ys), subst (Appends a b) (sym (take-append-le p.0 xs ys (omega (arith, p.1)))) p.2)

-- the first was written whole, and the second in part
pub part_second : (a b c : Option (List ℕ)) (xs ys : List ℕ) → Appends a b xs → AppendsPart ys b c → AppendsPart (xs ++ ys) a c
part_second a b c xs ys h p =
    (length xs + p.0, omega (arith, p.1, length-append xs ys), subst (Appends a c) (sym (take-append-add xs ys p.0)) (Appends-trans a b c xs (take p.0 ys) h p.2))
