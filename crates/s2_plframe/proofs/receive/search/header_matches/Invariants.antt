use Rattle.std.proofs.Common.{◌≡◌, ◌≤◌, map}
use Rattle.s2_mode.specs.Mode.{mode_of}
use Rattle.s2_plframe.specs.Header.{header_bit}
use Rattle.s2_plframe.specs.Search.{decision, mismatches}
use Rattle.s2_plframe.proofs.receive.search.header_matches.Given as goal

abbrev pub invariant-loop-k : goal.invariant-loop-k
invariant-loop-k l = record {
  few : l.different ≤ l.k;
  counted : l.different ≡ mismatches (header_bit (mode_of l.code.modcod l.code.short l.code.pilots)) (map decision l.symbols) l.k;
}
