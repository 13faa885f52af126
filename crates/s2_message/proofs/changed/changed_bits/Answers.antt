use Rattle.std.proofs.Common.{◌≡◌, length, sym, ap, ◌∙◌}
use Rattle.std.specs.Prelude.{int_lt, pos}
use Rattle.std.proofs.lemmas.List.{length-map}
use Rattle.s2_mode.specs.Mode.{n_of}
use Rattle.s2_bits.specs.Bits.{differences}
use Rattle.s2_check.specs.Hard.{hard_decision}
use Rattle.s2_message.proofs.changed.changed_bits.Goals as goal

pub distance-requires : goal.distance-requires
distance-requires c =
    let long : length c.hard_into.new.word ≡ n_of c.args.mode = ap length c.hard_into.ensures ∙ (length-map c.args.soft.now (λ v. int_lt v (pos 0)) ∙ c.requires.soft) in
    c.requires.word ∙ sym long

pub returns-clause-is : goal.returns-clause-is
returns-clause-is c =
    let m = c.args.mode in
    let long : length c.hard_into.new.word ≡ n_of m = ap length c.hard_into.ensures ∙ (length-map c.args.soft.now (λ v. int_lt v (pos 0)) ∙ c.requires.soft) in
    let sum : c.distance.result ≡ differences (n_of m) (hard_decision c.args.soft.now) c.args.word.now = c.distance.ensures ∙ (λ t. differences (long t) (c.hard_into.ensures t) c.args.word.now) in
    λ t. record { sum = sum t; of = c.n.ensures.is t }

pub returns-clause-long : goal.returns-clause-long
returns-clause-long c = ap length c.hard_into.ensures ∙ (length-map c.args.soft.now (λ v. int_lt v (pos 0)) ∙ c.requires.soft)
