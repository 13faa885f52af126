-- The divisor of soft values that a user asks for (own).
use Rattle.std.specs.Prelude.{ℕ, Bool}
use Rattle.s2_mode.specs.Mode.{Mode}
use Rattle.s2_tuning.specs.Best.{best_of}
use Rattle.s2_tuning.specs.Wanted.{number_by}
use Rattle.s2_tuning.specs.declared.wanted.Number.{Number}

-- a number that is given wins, else the best divisor of the mode's code if that is requested, else the default
abbrev pub divisor_by : Mode → Bool → Number → ℕ
divisor_by mode tuned number = number_by tuned number (best_of mode).divisor
