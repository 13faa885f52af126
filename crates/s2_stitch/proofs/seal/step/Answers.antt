use native.Mathlib.Nat.{mod-add-mod}
use Rattle.std.proofs.Common.{◌*◌, ◌^◌, rules}
use Rattle.s2_stitch.proofs.seal.step.Goals as goal

pub returns : goal.returns
returns c = search (rules, mod-add-mod (c.args.sum * 6364136223846793005) (2 ^ 64) c.args.number)
