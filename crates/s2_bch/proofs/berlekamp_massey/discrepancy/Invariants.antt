use Rattle.std.proofs.Common.{◌≡◌, ◌+◌, drop}
use Rattle.s2_bch.specs.Sequences.{dot, discrepancies, sequence_of}
use Rattle.s2_bch.proofs.berlekamp_massey.discrepancy.Given as goal

abbrev pub invariant-loop-j : goal.invariant-loop-j
invariant-loop-j g l =
    let f = g.F.Field in
    f.field.sum l.total (dot f.field (drop l.j l.locator) (λ k. sequence_of f.field.zero l.sequence (l.at + (l.j + k))))
    ≡ discrepancies f.field l.locator (sequence_of f.field.zero l.sequence) l.at
