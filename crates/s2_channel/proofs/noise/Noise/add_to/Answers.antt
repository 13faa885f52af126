use Rattle.std.proofs.Common.{ap, ◌∙◌, rules, arith}
use Rattle.s2_mode.specs.Symbols.{symbol_at}
use Rattle.s2_channel.specs.Noise.{add}
use Rattle.s2_channel.proofs.Draws.{added_more, drawn_more}
use Rattle.s2_channel.proofs.noise.Noise.add_to.Goals as goal

pub add-preserved : goal.add-preserved
add-preserved c =
    let before = c.add.self.generator in
    let kept = c.add.invariant.strength in
    let drawn = c.add-in-add.ensures.drawn ∙ ap (λ l. add l before (symbol_at c.add.symbols c.add.i)) kept in
    record {
      whole = added_more c.args.self.now.strength before _ c.add.symbols c.add.i c.add-in-add.result (search (rules, arith)) drawn ∙ c.add.invariant.whole;
      drawn = drawn_more c.args.self.now.strength c.add.i c.args.self.now.generator before _ (symbol_at c.add.symbols c.add.i) c.add-in-add.result c.add.invariant.drawn drawn;
      strength = c.add-in-add.ensures.strength ∙ kept;
      length = search (rules, arith);
    }
