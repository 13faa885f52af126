use Rattle.std.proofs.Common.{◌≡◌, drop}
use Rattle.s2_scan.specs.Lines.{advice_of}
use Rattle.s2_scan.proofs.advice.push_advice.Given as goal

-- none of those before is received
abbrev pub invariant-loop-k : goal.invariant-loop-k
invariant-loop-k l = record {
  same : l.text.items ≡ l.initial.text.items;
  rest : advice_of l.name l.number (drop l.k l.candidates) ≡ advice_of l.name l.number l.candidates;
}
