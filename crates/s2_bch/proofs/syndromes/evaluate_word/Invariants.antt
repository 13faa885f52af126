use Rattle.std.proofs.Common.{◌≡◌, drop}
use Rattle.s2_field.specs.Polynomials.{pow}
use Rattle.s2_bch.proofs.Horner.{horner_of}
use Rattle.s2_bch.proofs.syndromes.evaluate_word.Given as goal

abbrev pub invariant-loop-bit : goal.invariant-loop-bit
invariant-loop-bit g l =
    let f = g.F.Field in
    horner_of f.field l.value (drop l.bit-index l.word) (pow f.field f.alpha l.power)
    ≡ horner_of f.field f.field.zero l.word (pow f.field f.alpha l.power)
