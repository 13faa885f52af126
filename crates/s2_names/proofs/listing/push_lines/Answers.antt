use Rattle.std.proofs.Common.{◌≡◌, ◌+◌, ◌∙◌, arith}
use Rattle.s2_mode.specs.Limits.{max_modcod}
use Rattle.s2_names.proofs.Codes.{all_lines}
use Rattle.s2_names.proofs.listing.push_lines.Goals as goal

pub returns : goal.returns
returns c =
    let end : c.loop-modcod.modcod ≡ max_modcod + 1 = omega (arith, c.loop-modcod-test.false, c.loop-modcod.auto.modcod, c.loop-modcod.auto.modcod-end) in
    c.loop-modcod.invariant ∙ all_lines c.args.rate.now c.args.short c.args.text.now.items c.loop-modcod.modcod end
