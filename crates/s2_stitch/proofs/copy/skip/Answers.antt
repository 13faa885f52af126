use Rattle.std.proofs.Common.{◌≡◌, Some, None, true, arith, refl, rules, subst}
use Rattle.s2_mode.specs.Symbols.{YieldsSymbol}
use Rattle.s2_stitch.specs.Copies.{SkipsSymbols}
use Rattle.s2_stitch.proofs.SourceLemmas.{skips_end, skips_more, skips_none}
use Rattle.s2_stitch.proofs.copy.skip.Goals as goal

pub symbols-init : goal.symbols-init
symbols-init g c = record { skipped = skips_none _; count = refl }

pub symbols-preserved : goal.symbols-preserved
symbols-preserved g c =
    let remaining = g.C.CountedRead.remaining in
    let yields : YieldsSymbol (remaining c.symbols.copy) (remaining c.read_symbol.new.reader) (Some c.in-Some._symbol) = search rules in
    record { skipped = skips_more c.symbols._skipped (remaining c.args.copy.now) (remaining c.symbols.copy) (remaining c.read_symbol.new.reader) c.in-Some._symbol c.symbols.invariant.skipped yields; count = search rules }

pub returns-in_default-clause-skips : goal.returns-in_default-clause-skips
returns-in_default-clause-skips g c =
    let remaining = g.C.CountedRead.remaining in
    let yields : YieldsSymbol (remaining c.symbols.copy) (remaining c.read_symbol.new.reader) None = search rules in
    skips_end c.symbols._skipped c.args.symbols (remaining c.args.copy.now) (remaining c.symbols.copy) (remaining c.read_symbol.new.reader) c.symbols.invariant.skipped yields

pub returns-clause-skips : goal.returns-clause-skips
returns-clause-skips g c =
    let all : c.symbols._skipped ≡ c.args.symbols = omega (arith, c.symbols-test.false, c.symbols.auto._skipped-end) in
    subst (λ k. SkipsSymbols k (g.C.CountedRead.remaining c.args.copy.now) (g.C.CountedRead.remaining c.symbols.copy) true) all c.symbols.invariant.skipped
