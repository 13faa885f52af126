use Rattle.std.proofs.Common.{rules, arith}
use Rattle.std.proofs.lemmas.List.{take_rest}
use Rattle.s2_rows.proofs.Pieces.{piece_ends, one_piece}
use Rattle.s2_rows.specs.Text.{is_line_feed}
use Rattle.s2_judging.proofs.hard.cut_line.Goals as goal

pub returns-then-b-eq10-clause-pieces : goal.returns-then-b-eq10-clause-pieces
returns-then-b-eq10-clause-pieces c = rw take_rest (piece_ends is_line_feed c.args.text.now c.loop-at.at (omega arith) c.loop-at.invariant (search rules))

pub returns-clause-pieces : goal.returns-clause-pieces
returns-clause-pieces c = one_piece is_line_feed c.args.text.now c.requires (λ k h. c.loop-at.invariant k (omega arith))
