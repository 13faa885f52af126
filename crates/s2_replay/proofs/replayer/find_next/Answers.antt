use Rattle.std.proofs.Common.{◌≡◌, ◌∙◌, None, inr, rules, sym}
use Rattle.s2_replay.proofs.replayer.find_next.Goals as goal

pub returns-then-room-eq0-clause-reads : goal.returns-then-room-eq0-clause-reads
returns-then-room-eq0-clause-reads g c =
    let none : _ ≡ None = c.in_default.is in
    let seeks = rw none at c.in_ok-found.ensures.stuck (search rules) in
    inr (c.in_ok-found.ensures.cause ∙ c.reading.invariant.reads, (c.reading.follower, sym c.room-room.ensures.is ∙ c.if-room-eq0.true, seeks))
