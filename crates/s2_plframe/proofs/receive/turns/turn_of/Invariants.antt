use Rattle.std.proofs.Common.{◌≡◌, ◌≤◌, take, true}
use Rattle.s2_plframe.specs.Turns.{search_of, sought_of}
use Rattle.s2_plframe.specs.HeaderLaws.{seen_of}
use Rattle.s2_plframe.proofs.receive.turns.turn_of.Given as goal

abbrev pub invariant-loop-k : goal.invariant-loop-k
invariant-loop-k l = l.search ≡ search_of (sought_of l.fn.mode true) (seen_of true (take l.k l.symbols))
