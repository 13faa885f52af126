use Rattle.std.proofs.Common.{◌≡◌, true, take}
use Rattle.std.specs.List.{list_all}
use Rattle.s2_judging.specs.HardNotes.{is_bit}
use Rattle.s2_judging.proofs.hard_note.are_bits.Given as goal

abbrev pub invariant-loop-value : goal.invariant-loop-value
invariant-loop-value l = list_all is_bit (take l.value-index l.values) ≡ true
