use Rattle.std.proofs.Common.{ℕ, ◌<◌, false}
use Rattle.s2_mode.specs.Mode.{IsMode, mode_of}
use Rattle.s2_names.specs.Names.{IsNameOf}
use Rattle.s2_names.proofs.names.modcod_of.Given as goal

-- no mode before has this name
abbrev pub invariant-loop-modcod : goal.invariant-loop-modcod
invariant-loop-modcod l = (k : ℕ) → k < l.modcod → IsMode (mode_of k false false) → IsNameOf (mode_of k false false) l.name → ⊥
