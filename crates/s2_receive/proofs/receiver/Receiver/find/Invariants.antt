use Rattle.s2_receive.proofs.Names.{◌≡◌, ◌-◌, IsLive, IsSame, rules_of, taken}
use Rattle.s2_receive.proofs.ReadLemmas.{Waited}
use Rattle.s2_receive.proofs.receiver.Receiver.find.Given as goal

-- only symbols were read so far
abbrev pub invariant-reading : goal.invariant-reading
invariant-reading g l = record {
  same : IsSame g.D.Decide.decide l.fn.self l.self;
  waited : Waited (rules_of g.D.Decide.decide l.fn.self) l.fn.self.state l.self.state (g.R.CountedRead.remaining l.fn.reader) (g.R.CountedRead.remaining l.reader);
  live : IsLive l.self.state.phase;
  unaided : g.D.Decide.unaided l.self.decider ≡ g.D.Decide.unaided l.fn.self.decider;
  last : g.D.Decide.last l.self.decider ≡ g.D.Decide.last l.fn.self.decider;
  count : g.R.Counted.count l.reader ≡ g.R.Counted.count l.fn.reader;
}

abbrev pub decreases-reading : goal.decreases-reading
decreases-reading g l = l.self.limit - taken l.self.state
