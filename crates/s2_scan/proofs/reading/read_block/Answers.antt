use Rattle.std.proofs.Common.{◌≡◌, ◌≤◌, ◌+◌, length, drop, vec_len, ap, ◌∙◌, arith}
use Rattle.s2_scan.proofs.Feeds.{ends, fed_as, goes_on}
use Rattle.s2_scan.proofs.reading.read_block.Goals as goal

pub returns-then-total-lt-BLOCK-clause-end : goal.returns-then-total-lt-BLOCK-clause-end
returns-then-total-lt-BLOCK-clause-end g c = λ _ origin fed room.
    let rest = g.R.CountedRead.remaining in
    let feed = c.args.feed.now in
    let size : vec_len feed.block ≡ 33124 = c.requires.size in
    let inside : feed.held ≤ length feed.block.items = omega (arith, size, c.requires.held) in
    ends origin (rest c.args.reader.now) (rest c.fill.new.reader) feed.block.items c.fill.new.block.items feed.held c.in_ok-total.total feed.first feed.passes.items feed.front.items fed c.in_ok-total.ensures.filled
    c.if-total-lt-BLOCK.true room inside (c.in_ok-total.ensures.end c.if-total-lt-BLOCK.true) c.push_held.new.feed.passes.items c.in_ok-push_held.ensures.passes c.push_held.new.feed.front.items c.in_ok-push_held.ensures.front

pub returns-clause-on : goal.returns-clause-on
returns-clause-on g c = λ _ origin fed.
    let rest = g.R.CountedRead.remaining in
    let feed = c.args.feed.now in
    let total = c.in_ok-total.total in
    let full : total ≡ 33124 = omega (arith, c.in_ok-total.ensures.bound, c.if-total-lt-BLOCK.false) in
    let size : vec_len c.fill.new.block ≡ 33124 = c.in_ok-total.ensures.size in
    let long : length c.fill.new.block.items ≡ 33124 = omega (arith, size) in
    let before : vec_len feed.block ≡ 33124 = c.requires.size in
    let inside : feed.held ≤ length feed.block.items = omega (arith, before, c.requires.held) in
    let kept = c.keep.ensures.block ∙ ap (λ b. drop 32768 b.items) c.in_ok-push_held.ensures.block in
    let on = goes_on origin (rest c.args.reader.now) (rest c.fill.new.reader) feed.block.items c.fill.new.block.items feed.held total feed.first feed.passes.items feed.front.items fed c.in_ok-total.ensures.filled
    full long inside c.keep.new.feed.block.items kept c.push_held.new.feed.passes.items c.in_ok-push_held.ensures.passes c.push_held.new.feed.front.items c.in_ok-push_held.ensures.front in
    fed_as origin (rest c.fill.new.reader) c.keep.new.feed.block.items _ _ _ _ _ _ _ _ c.keep.ensures.held (c.keep.ensures.first ∙ ap (λ n. n + 8192) c.in_ok-push_held.ensures.first) (ap (λ v. v.items) c.keep.ensures.passes) (ap (λ v. v.items) c.keep.ensures.front) on
