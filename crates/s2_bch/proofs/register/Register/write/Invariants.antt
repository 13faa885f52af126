use Rattle.std.proofs.Common.{◌≡◌, ◌<◌, ℕ, List, drop, length, get_or}
use Rattle.std.specs.Prelude.{Bool, false}
use Rattle.s2_bch.specs.Registers.{Holds}
use Rattle.s2_bch.proofs.register.Register.write.Given as goal

-- what is held of w follows, and the bits before are written
abbrev pub invariant-loop-bit : goal.invariant-loop-bit
invariant-loop-bit l = (w : List Bool) → length w ≡ length l.fn.bits → Holds l.fn.self w
    → Holds l.rest (drop l.bit-index w) × ((k : ℕ) → k < l.bit-index → get_or l.bits k false ≡ get_or w k false)
