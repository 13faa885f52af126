use Rattle.std.proofs.Common.{◌≡◌, ◌*◌, take}
use Rattle.std.specs.Io.KnownBytes.{Consumes}
use Rattle.s2_bbframe.specs.Limits.{packet_bytes}
use Rattle.s2_replay.proofs.packets.compare_packets.Given as goal

-- so many packets were given, and no read failed
abbrev pub invariant-packets : goal.invariant-packets
invariant-packets g l = record {
  front : Consumes (g.R.CountedRead.remaining l.fn.reader) (g.R.CountedRead.remaining l.reader) (take (packet_bytes * l.k) l.packets);
  reads : g.R.Counted.count l.reader ≡ g.R.Counted.count l.fn.reader;
}
