use Rattle.std.proofs.Common.{subst, sym, ◌∙◌}
use Rattle.s2_matrix.specs.Code.{code_of}
use Rattle.s2_settle.specs.declared.course.Course.{Course}
use Rattle.s2_settle.specs.Layer.{Held}
use Rattle.s2_settle.specs.Plain as plain
use Rattle.s2_settle.specs.Settled.{ended}
use Rattle.s2_settle.specs.Shows.{IsShown, ShowsEnd}
use Rattle.s2_settle.proofs.PlainPasses.{start_both}
use Rattle.s2_settle.proofs.Makes.{found_is, never_found}
use Rattle.s2_settle.proofs.find.find_moves.Goals as goal

pub returns-then-not-run_passes-clause-found : goal.returns-then-not-run_passes-clause-found
returns-then-not-run_passes-clause-found c =
    let rows = c.args.matrix.now in
    let soft = c.args.soft.now in
    let word = c.args.word.now in
    let st = plain.start soft word in
    let shown = subst (λ (h : Held). IsShown rows h st) (sym c.start.ensures.is) (start_both rows c.requires.fit soft word c.requires.range) in
    never_found rows c.run_passes.new.held c.run_passes.result c.args.moves.now (ended rows soft word c.args.passes) c.if-not-run_passes.true (subst (λ (x : Course). ShowsEnd rows (plain.passes (code_of rows) rows.shape.q c.args.passes 0 x st) c.run_passes.result c.run_passes.new.held) c.at_first-first.ensures (c.run_passes.ensures.is st shown))

pub returns-clause-found : goal.returns-clause-found
returns-clause-found c =
    let rows = c.args.matrix.now in
    let soft = c.args.soft.now in
    let word = c.args.word.now in
    let st = plain.start soft word in
    let shown = subst (λ (h : Held). IsShown rows h st) (sym c.start.ensures.is) (start_both rows c.requires.fit soft word c.requires.range) in
    found_is rows c.run_passes.new.held c.run_passes.result c.put_moves.new.moves (ended rows soft word c.args.passes) c.if-not-run_passes.false (subst (λ (x : Course). ShowsEnd rows (plain.passes (code_of rows) rows.shape.q c.args.passes 0 x st) c.run_passes.result c.run_passes.new.held) c.at_first-first.ensures (c.run_passes.ensures.is st shown)) c.put_moves.ensures.are
