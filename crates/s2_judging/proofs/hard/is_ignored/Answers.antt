use Rattle.std.proofs.Common.{◌≡◌, [], ap, ◌∙◌, sym, rules, drop_of_length-le}
use Rattle.s2_rows.specs.Text.{is_ignored, tokens_of, pieces_of}
use Rattle.s2_judging.proofs.hard.is_ignored.Goals as goal

pub returns : goal.returns
unfolding pieces_of
returns c =
    let empty : c.loop-rest.rest.now ≡ [] = drop_of_length-le c.loop-rest.rest.now {i = 0} (search rules) in
    ap is_ignored (sym (ap tokens_of empty) ∙ c.loop-rest.invariant)
