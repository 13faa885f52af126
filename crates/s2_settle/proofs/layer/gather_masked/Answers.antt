use Rattle.std.proofs.Common.{cond, ap, ◌∙◌}
use Rattle.s2_minsum.specs.Rows.{entry_at, is_lacking}
use Rattle.s2_minsum.proofs.RowLemmas.{masked}
use Rattle.s2_settle.specs.Rests.{no_input}
use Rattle.s2_settle.proofs.layer.gather_masked.Goals as goal

pub returns : goal.returns
returns c = λ e k lt low.
    let entries = c.args.entries.now in
    let last = c.args.last in
    let long = c.gather_all.auto.inputs ∙ c.requires.same in
    masked entries c.args.n last no_input c.gather_all.new.inputs c.mask_lacking.new.rows long (c.mask_lacking.auto.rows ∙ long) c.mask_lacking.ensures e k lt low
    ∙ ap (cond (is_lacking last (entry_at entries e) k) no_input) (c.gather_all.ensures e k lt low)
