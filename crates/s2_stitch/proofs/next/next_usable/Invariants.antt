use Rattle.std.proofs.Common.{◌≡◌, List}
use Rattle.s2_stitch.specs.Records.{Record}
use Rattle.s2_stitch.specs.Sources.{ArePassed, AreRead}
use Rattle.s2_stitch.proofs.next.next_usable.Given as goal

-- records of no use were read, and no read failed
abbrev pub invariant-records : goal.invariant-records
invariant-records g l = record {
  passed : (passed : List Record) × AreRead l.bits passed (g.Q.CountedRead.remaining l.fn.records) (g.Q.CountedRead.remaining l.records) × ArePassed l.matrix l.from passed;
  count : g.Q.Counted.count l.records ≡ g.Q.Counted.count l.fn.records;
}
