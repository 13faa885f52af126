use Rattle.std.proofs.Common.{◌≡◌, ◌+◌, ◌-◌, ◌≤◌, length, take, drop, subst, sym, ap, ◌∙◌, arith}
use Rattle.std.specs.Io.KnownBytes.{Consumes}
use Rattle.std.proofs.lemmas.List.{drop-take, drop_at, take-append-le, length-take-le}
use borrow.Rule.Slice.PartMut.{put_mid}
use Rattle.s2_evidence.proofs.next.read_on.Goals as goal

pub returns-in-Ok-clause-bytes : goal.returns-in-Ok-clause-bytes
returns-in-Ok-clause-bytes g c =
    let a = c.args.from in
    let xs = c.args.buffer.now in
    let ys = c.read_full.new.buf in
    let n = c.in-Ok.count in
    let within : a ≤ length xs = omega (arith, c.requires.order, c.requires.room) in
    let same : drop a (take (a + n) (put_mid a (c.args.to - a) xs ys)) ≡ take n ys =
    drop-take a n _ ∙ ap (take n) (drop_at (take a xs) _ a (length-take-le a xs within)) ∙ take-append-le n ys _ c.in-Ok.ensures.bound in
    subst (Consumes (g.R.CountedRead.remaining c.args.reader.now) (g.R.CountedRead.remaining c.read_full.new.reader)) (sym same) c.in-Ok.ensures.bytes
