use Rattle.s2_scramble.proofs.LaneLemmas.{rotated-fits}
use Rattle.s2_scramble.proofs.lanes.rotate_four.Goals as goal

pub returns : goal.returns
returns c k l m n lk ll lm ln qs =
    let seen = c.words_from.ensures in
    c.symbols_from.ensures _ _ _ _
    (rotated-fits k _ lk seen.a) (rotated-fits l _ ll seen.b) (rotated-fits m _ lm seen.c) (rotated-fits n _ ln seen.d)
    (c.rotated_words.ensures k l m n _ _ _ _ lk ll lm ln seen.a seen.b seen.c seen.d qs seen.words)
