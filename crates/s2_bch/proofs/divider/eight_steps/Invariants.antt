use Rattle.std.proofs.Common.{◌≡◌, ◌-◌}
use Rattle.s2_bch.specs.Division.{steps}
use Rattle.s2_bch.specs.Registers.{value_of}
use Rattle.s2_bch.proofs.divider.eight_steps.Given as goal

abbrev pub invariant-loop : goal.invariant-loop
invariant-loop l =
    steps 192 (value_of l.tail) (8 - l.counter) (value_of l.register) ≡ steps 192 (value_of l.tail) 8 (value_of l.fn.start)
