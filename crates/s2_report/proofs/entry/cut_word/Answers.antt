use Rattle.std.proofs.Common.{rules, arith}
use Rattle.std.proofs.lemmas.List.{take_rest}
use Rattle.s2_rows.proofs.Pieces.{piece_ends, one_piece}
use Rattle.s2_report.specs.Entries.{is_blank}
use Rattle.s2_report.proofs.entry.cut_word.Goals as goal

pub returns-then-b-eq32 : goal.returns-then-b-eq32
returns-then-b-eq32 c = rw take_rest (piece_ends is_blank c.args.line.now c.bytes.at (omega arith) c.bytes.invariant (search rules))

pub returns : goal.returns
returns c = one_piece is_blank c.args.line.now c.requires (λ k h. c.bytes.invariant k (omega arith))
