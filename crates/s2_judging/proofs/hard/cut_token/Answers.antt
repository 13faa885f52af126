use Rattle.std.proofs.Common.{rules, arith}
use Rattle.std.proofs.lemmas.List.{take_rest}
use Rattle.s2_rows.proofs.Pieces.{piece_ends, one_piece}
use Rattle.s2_rows.specs.Text.{is_space}
use Rattle.s2_judging.proofs.hard.cut_token.Goals as goal

pub returns-then-separates-clause-pieces : goal.returns-then-separates-clause-pieces
returns-then-separates-clause-pieces c = rw take_rest (piece_ends is_space c.args.line.now c.loop-at.at (omega arith) c.loop-at.invariant (search rules))

pub returns-clause-pieces : goal.returns-clause-pieces
returns-clause-pieces c = one_piece is_space c.args.line.now c.requires (λ k h. c.loop-at.invariant k (omega arith))
