use Rattle.std.proofs.Common.{rules, ◌≡◌, length}
use Rattle.s2_mode.specs.Mode.{k_of}
use Rattle.s2_message.specs.Decisions.{received_word}
use Rattle.s2_message.specs.Reading.{FindsWord}
use Rattle.s2_message.proofs.MessageLemmas.{finds_word}
use Rattle.s2_message.proofs.corrector.find_word.Goals as goal

pub returns : goal.returns
returns c =
    let d = c.decode_in_place in
    let found : FindsWord c.args.mode (received_word c.args.mode c.args.bits.now) d.new.word d.result × (length d.new.word ≡ k_of c.args.mode) =
    finds_word c.args.mode _ _ c.args.bits.now _ _ _ d.result c.requires.code c.k.ensures.is c.requires.bits c.requires.bch_word c.copy_prefix.ensures d.ensures.some d.ensures.nearest d.ensures.no_nearest d.ensures.unchanged in
    search (rules, found)
