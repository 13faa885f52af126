use Rattle.std.proofs.Common.{length, sym, ap, ◌∙◌}
use Rattle.std.proofs.lemmas.Bool.{false_from_ne_true}
use Rattle.std.proofs.lemmas.List.FromFn.{length-map-range_with_len}
use Rattle.s2_rows.specs.Rows.{Rows}
use Rattle.s2_matrix.specs.Code.{code_of}
use Rattle.s2_minsum.specs.Plain.{decision}
use Rattle.s2_minsum.specs.Decoding.{decoded}
use Rattle.s2_judge.specs.Deciding.{satisfies}
use Rattle.s2_judge.proofs.Decisions.{satisfied_codeword, test_of}
use Rattle.s2_judge.proofs.steps.is_decoded.Goals as goal

pub returns-then-decision_fails_early-clause-test : goal.returns-then-decision_fails_early-clause-test
returns-then-decision_fails_early-clause-test c =
    let code = code_of c.args.matrix.now in
    let d = c.args.decoder.now in
    let word = decision (code_of d.rows) (decoded d) in
    let long = length-map-range_with_len _ 0 (code_of d.rows).bits ∙ ap (λ (q : Rows). (code_of q).bits) c.requires.decoder in
    false_from_ne_true (satisfies code word) (λ even. c.decision_fails_early.ensures c.if-decision_fails_early.true (satisfied_codeword code word long even))

pub satisfied-requires : goal.satisfied-requires
satisfied-requires c =
    ap length c.hard_into.ensures ∙ length-map-range_with_len _ 0 (code_of c.args.decoder.now.rows).bits ∙ ap (λ (q : Rows). (code_of q).bits) c.requires.decoder

pub returns-clause-test : goal.returns-clause-test
returns-clause-test c =
    let code = code_of c.args.matrix.now in
    let long = ap length c.hard_into.ensures ∙ length-map-range_with_len _ 0 (code_of c.args.decoder.now.rows).bits ∙ ap (λ (q : Rows). (code_of q).bits) c.requires.decoder in
    ap (satisfies code) (sym c.hard_into.ensures) ∙ test_of code c.hard_into.new.word c.satisfied.result long c.satisfied.ensures

pub returns-clause-long : goal.returns-clause-long
returns-clause-long c =
    ap length c.hard_into.ensures ∙ length-map-range_with_len _ 0 (code_of c.args.decoder.now.rows).bits ∙ ap (λ (q : Rows). (code_of q).bits) c.requires.decoder
