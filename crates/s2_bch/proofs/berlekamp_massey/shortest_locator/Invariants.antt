use Rattle.std.proofs.Common.{◌+◌, ◌≤◌, take}
use Rattle.s2_bch.specs.Sequences.{Shortest, sequence_of}
use Rattle.s2_bch.proofs.berlekamp_massey.shortest_locator.Given as goal

abbrev pub invariant-loop-n : goal.invariant-loop-n
invariant-loop-n g l =
    let f = g.F.Field in
    record {
      shortest : Shortest f.field l.n l.degree (take (l.degree + 1) l.locator) (take l.auxiliary_size l.auxiliary) l.delta
          (sequence_of f.field.zero l.sequence);
      short : l.degree ≤ l.n;
      room : l.auxiliary_size + l.degree ≤ l.n + 1;
    }
