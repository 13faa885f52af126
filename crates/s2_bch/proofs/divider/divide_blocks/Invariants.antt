use Rattle.std.proofs.Common.{◌*◌, List, length, take}
use Rattle.std.specs.Prelude.{Bool, false, replicate}
use Rattle.s2_bch.specs.Words.{register_after}
use Rattle.s2_bch.specs.Registers.{Holds, IsTableFor}
use Rattle.s2_bch.proofs.divider.divide_blocks.Given as goal

abbrev pub invariant-loop-block : goal.invariant-loop-block
invariant-loop-block l =
    (t : List Bool) → IsTableFor t l.table → Holds l.register (register_after t (replicate (length t) false) (take (64 * l.block) l.message))
