use Rattle.std.proofs.Common.{arith, ℕ, List, ◌≡◌, ap, subst, length, drop}
use Rattle.std.specs.Vec.{with_items}
use Rattle.s2_judging.specs.Bytewise.{pending, TakesFrame}
use Rattle.s2_judging.proofs.FrameLemmas.{written_back}
use Rattle.s2_judging.proofs.frames.Frames.read.Goals as goal

pub returns-clause-takes : goal.returns-clause-takes
returns-clause-takes g c =
    let n = c.args.self.now.count in
    let hard = c.args.self.now.hard in
    let old = c.args.self.now.reading in
    let new = c.read_frame.new.reading in
    let left = c.args.self.now.reading.left in
    let rest = g.R.CountedRead.remaining c.args.reader.now in
    let after = g.R.CountedRead.remaining c.read_frame.new.reader in
    let values = c.read_frame.new.values.items in
    let bytes = c.read_frame.new.buffer in
    let buffer = c.args.self.now.buffer in
    let long : length bytes ≡ buffer.len = omega (arith, c.read_frame.ensures.buffer, ap length c.deref_mut.ensures.value, buffer.ok.0) in
    let same : bytes ≡ (with_items buffer bytes).items = written_back buffer.len bytes (drop (length bytes) buffer.items) long in
    subst (λ (b : List ℕ). TakesFrame n (pending hard old c.args.self.now.buffer.items rest) (pending hard new b after) values rest left c.read_frame.result) same
    (subst (λ (b : List ℕ). TakesFrame n (pending hard old b rest) (pending hard new bytes after) values rest left c.read_frame.result) c.deref_mut.ensures.value c.read_frame.ensures.takes)
