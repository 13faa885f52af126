use Rattle.s2_bch.proofs.Lent.{some_map, none_map, within_of, only_of, none_of}
use Rattle.s2_bch.proofs.NearestWords.{within_is_nearest, none_is_nearest}
use Rattle.s2_bch.proofs.bch.correct_bits.Goals as goal

pub returns-clause-some : goal.returns-clause-some
returns-clause-some c =
    some_map c.decode.result _ _
    (λ n h. within_of c.args.mode c.args.word.now c.truths_mut.result.now c.decode.new.word n c.truths_mut.ensures.value c.decode.auto.word h)
    c.decode.ensures.some

pub returns-clause-only : goal.returns-clause-only
returns-clause-only c =
    some_map c.decode.result _ _
    (λ n h. only_of c.args.mode c.args.word.now c.truths_mut.result.now c.decode.new.word c.truths_mut.ensures.value c.decode.auto.word c.requires.word h)
    c.decode.ensures.only

pub returns-clause-none : goal.returns-clause-none
returns-clause-none c =
    none_map c.decode.result _ _
    (λ h. none_of c.args.mode c.args.word.now c.truths_mut.result.now c.truths_mut.ensures.value c.requires.word h)
    c.decode.ensures.none

pub returns-clause-nearest : goal.returns-clause-nearest
returns-clause-nearest c =
    some_map c.decode.result _ _
    (λ n h. within_is_nearest c.args.mode c.requires.valid c.requires.sizes c.args.word.now c.requires.word _
    (within_of c.args.mode c.args.word.now c.truths_mut.result.now c.decode.new.word n c.truths_mut.ensures.value c.decode.auto.word h).0)
    c.decode.ensures.some

pub returns-clause-no_nearest : goal.returns-clause-no_nearest
returns-clause-no_nearest c =
    none_map c.decode.result _ _
    (λ h. none_is_nearest c.args.mode c.requires.valid c.requires.sizes c.args.word.now c.requires.word
    (none_of c.args.mode c.args.word.now c.truths_mut.result.now c.truths_mut.ensures.value c.requires.word h))
    c.decode.ensures.none
