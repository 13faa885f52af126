use Rattle.std.proofs.Common.{◌≡◌, ◌+◌, ◌≤◌, ◌^◌, ℕ, Vec, Global, refl, sym, subst, ◌∙◌, arith}
use Rattle.s2_scan.specs.Scanning.{AreSeen}
use Rattle.s2_scan.specs.declared.passes.Pass.{Pass}
use Rattle.s2_scan.proofs.Feeds.{none_fed, too_long}
use Rattle.s2_scan.proofs.reading.read_seen.Goals as goal

pub loop-block-init : goal.loop-block-init
loop-block-init g c = record {
  fed = none_fed (g.R.CountedRead.remaining c.args.reader.now) c.in_ok-feed.feed.block.items c.in_ok-feed.feed.held c.in_ok-feed.feed.first c.in_ok-feed.feed.passes.items c.in_ok-feed.feed.front.items
      c.in_ok-feed.ensures.held c.in_ok-feed.ensures.first c.in_ok-feed.ensures.empty c.in_ok-feed.ensures.front;
  count = refl;
  size = c.in_ok-feed.ensures.room;
  held = omega (arith, c.in_ok-feed.ensures.held);
  first = omega (arith, c.in_ok-feed.ensures.first);
}

pub loop-block-preserved : goal.loop-block-preserved
loop-block-preserved g c = record {
  fed = c.in_ok-ended.ensures.on c.if-ended.false (g.R.CountedRead.remaining c.args.reader.now) c.loop-block.invariant.fed;
  count = c.in_ok-ended.ensures.no_other (λ e. absurd (cc)) ∙ c.loop-block.invariant.count;
  size = c.in_ok-ended.ensures.size;
  held = c.in_ok-ended.ensures.held;
  first = omega (arith, c.in_ok-ended.ensures.first c.if-ended.false);
}

pub returns-then-ended-clause-seen : goal.returns-then-ended-clause-seen
returns-then-ended-clause-seen g c =
    let known = g.R.CountedRead.remaining c.args.reader.now in
    let room : c.loop-block.feed.first + 8192 ≤ 2 ^ 40 = omega (arith, c.loop-block.invariant.first) in
    let seen = c.in_ok-ended.ensures.end c.if-ended.true known c.loop-block.invariant.fed room in
    subst (λ (v : Vec ℕ Global). AreSeen known c.into_seen.result.passes.items v.items) (sym c.into_seen.ensures.front)
    (subst (λ (v : Vec Pass Global). AreSeen known v.items c.read_block.new.feed.front.items) (sym c.into_seen.ensures.passes) seen)

pub returns-clause-faults : goal.returns-clause-faults
returns-clause-faults g c =
    let feed = c.loop-block.feed in
    let all : feed.first ≡ 2 ^ 40 = omega (arith, c.loop-block.invariant.first) in
    too_long (g.R.CountedRead.remaining c.args.reader.now) (g.R.CountedRead.remaining c.loop-block.reader) feed.block.items feed.held feed.first feed.passes.items feed.front.items c.loop-block.invariant.fed all
