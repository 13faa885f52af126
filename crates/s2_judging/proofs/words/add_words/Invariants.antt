use Rattle.std.proofs.Common.{◌≡◌, ◌+◌, ◌≤◌, ◌++◌, ℕ, ℤ, List, All, drop, Result, vec_len, vec_capacity}
use Rattle.s2_rows.specs.declared.values.ValueFault.{ValueFault}
use Rattle.s2_check.specs.Views.{IsSoft}
use Rattle.s2_judging.specs.Bytewise.{Begin, words_from}
use Rattle.s2_judging.proofs.words.add_words.Given as goal

-- the words begin with the values so far, and go on from the position
abbrev pub invariant-loop-at : goal.invariant-loop-at
invariant-loop-at l = record {
  begun : (words : List (Result ℤ ValueFault)) (more : List ℕ) → Begin words l.fn.values.items (words_from l.hard l.fn.from (l.bytes ++ more))
      → Begin words l.values.items (words_from l.hard l.position (drop l.at l.bytes ++ more));
  room : l.count ≤ vec_capacity l.values;
  most : vec_len l.values ≤ l.count;
  lines : l.position.line ≤ l.fn.from.line + l.at;
  range : All IsSoft l.values.items;
}
