use Rattle.std.proofs.Common.{◌≡◌, ◌+◌, ◌<◌, ◌≤◌, ◌-◌, ◌%◌, ◌∙◌, subst, min, take, drop, length, length-take, rules, arith}
use Rattle.std.specs.Io.KnownBytes.{Consumes, IsAtEnd, Keeps}
use Rattle.s2_mode.specs.Pieces.{AppendsPart}
use Rattle.s2_mode.specs.Symbols.{symbols_of}
use Rattle.s2_channel.specs.Noise.{noisy}
use Rattle.s2_channel.proofs.Streams.{filled_is, passes_block, passes_cut, passes_part, passed_all, drawn_all, passed_many, if_known}
use Rattle.s2_channel.proofs.stream.add_to_all.Goals as goal

pub all-preserved : goal.all-preserved
all-preserved g c =
    let before = c.all.invariant in
    let count = c.in_ok-count.count in
    let more : Consumes (g.R.CountedRead.remaining c.all.reader) (g.R.CountedRead.remaining c.read_behind.new.reader) (take count (drop c.all.held c.read_behind.new.block)) = search rules in
    let bound : count ≤ min c.all.left (length c.all.block - c.all.held) = search rules in
    record {
      passed = passes_block _ _ _ _ _ _ c.args.noise.now.strength c.all.noise.strength c.args.noise.now.generator c.all.noise.generator _ c.all.block c.read_behind.new.block _ c.all.held count c.in_ok-held.held c.all.left
          before.passed before.strength before.held (c.read_behind.ensures.size ∙ before.size) c.read_behind.ensures.kept more (omega (arith, bound)) (omega (arith, bound, before.size))
          (search rules) (search rules) (search rules) c.pass_symbols.ensures.drawn;
      held = let next : c.in_ok-held.held ≡ (c.all.held + count) % 4 = search rules in omega (arith, next);
      size = c.pass_symbols.ensures.size;
      strength = c.pass_symbols.ensures.strength ∙ before.strength;
      reads = search rules;
      writes = search rules;
    }

pub returns-in_err-count-clause-front : goal.returns-in_err-count-clause-front
returns-in_err-count-clause-front g c =
    let kept : Keeps (g.R.CountedRead.remaining c.all.reader) (g.R.CountedRead.remaining c.read_behind.new.reader) = search rules in
    let few : length (take c.all.held c.all.block) < 4 = let cut = length-take c.all.held c.all.block in omega (arith, cut, c.all.invariant.held) in
    λ e. passes_cut _ _ _ _ _ _ _ _ _ _ _ _ c.all.invariant.passed few kept (search rules)

pub returns-in_err-held-clause-part : goal.returns-in_err-held-clause-part
returns-in_err-held-clause-part g c =
    let count = c.in_ok-count.count in
    let more : Consumes (g.R.CountedRead.remaining c.all.reader) (g.R.CountedRead.remaining c.read_behind.new.reader) (take count (drop c.all.held c.read_behind.new.block)) = search rules in
    let filled = take (c.all.held + count) c.read_behind.new.block in
    let fits : length filled ≤ 4096 = let cut = length-take (c.all.held + count) c.read_behind.new.block in omega (arith, cut, c.read_behind.ensures.size, c.all.invariant.size) in
    let part : AppendsPart (noisy c.all.noise.strength c.all.noise.generator (symbols_of filled)) (g.W.CountedWrite.contents c.all.writer) (g.W.CountedWrite.contents c.pass_symbols.new.writer) = search rules in
    λ e. passes_part _ _ _ _ _ _ c.args.noise.now.strength _ _ _ _ filled _ c.all.invariant.passed more (filled_is c.all.held count c.all.block c.read_behind.new.block c.read_behind.ensures.kept) fits
    (subst (λ l. AppendsPart (noisy l c.all.noise.generator (symbols_of filled)) (g.W.CountedWrite.contents c.all.writer) (g.W.CountedWrite.contents c.pass_symbols.new.writer)) c.all.invariant.strength part)

-- the reader had no byte more, so what is written is all
pub returns-then-count-eq0-clause-written : goal.returns-then-count-eq0-clause-written
returns-then-count-eq0-clause-written g c =
    let few : length (take c.all.held c.all.block) < 4 = let cut = length-take c.all.held c.all.block in omega (arith, cut, c.all.invariant.held) in
    let none = c.if-count-eq0.true in
    let more : Consumes (g.R.CountedRead.remaining c.all.reader) (g.R.CountedRead.remaining c.read_behind.new.reader) (take c.in_ok-count.count (drop c.all.held c.read_behind.new.block)) = search rules in
    let nothing = subst (λ n. Consumes (g.R.CountedRead.remaining c.all.reader) (g.R.CountedRead.remaining c.read_behind.new.reader) (take n (drop c.all.held c.read_behind.new.block))) none more in
    let ends : c.in_ok-count.count ≡ 0 → 0 < c.all.left → c.all.held < length c.all.block → IsAtEnd (g.R.CountedRead.remaining c.read_behind.new.reader) = search rules in
    let end = ends none c.all-test.true (omega (arith, c.all.invariant.held, c.all.invariant.size)) in
    if_known _ _ (λ xs known. passed_all _ _ _ _ _ _ _ _ _ xs _ known c.all.invariant.passed few nothing end)

pub returns-then-count-eq0-clause-drawn : goal.returns-then-count-eq0-clause-drawn
returns-then-count-eq0-clause-drawn g c =
    let few : length (take c.all.held c.all.block) < 4 = let cut = length-take c.all.held c.all.block in omega (arith, cut, c.all.invariant.held) in
    let none = c.if-count-eq0.true in
    let more : Consumes (g.R.CountedRead.remaining c.all.reader) (g.R.CountedRead.remaining c.read_behind.new.reader) (take c.in_ok-count.count (drop c.all.held c.read_behind.new.block)) = search rules in
    let nothing = subst (λ n. Consumes (g.R.CountedRead.remaining c.all.reader) (g.R.CountedRead.remaining c.read_behind.new.reader) (take n (drop c.all.held c.read_behind.new.block))) none more in
    let ends : c.in_ok-count.count ≡ 0 → 0 < c.all.left → c.all.held < length c.all.block → IsAtEnd (g.R.CountedRead.remaining c.read_behind.new.reader) = search rules in
    let end = ends none c.all-test.true (omega (arith, c.all.invariant.held, c.all.invariant.size)) in
    if_known _ _ (λ xs known. drawn_all _ _ (g.R.CountedRead.remaining c.read_behind.new.reader) _ _ _ _ _ _ xs _ known c.all.invariant.passed few nothing end)

pub returns-clause-read : goal.returns-clause-read
returns-clause-read g c =
    let few : length (take c.all.held c.all.block) < 4 = let cut = length-take c.all.held c.all.block in omega (arith, cut, c.all.invariant.held) in
    λ e same. if_known _ _ (λ xs known. passed_many _ _ _ _ _ _ _ _ xs _ known c.all.invariant.passed few (omega arith))
