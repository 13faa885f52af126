use Rattle.std.proofs.Common.{rules, arith, ap, ◌∙◌, ◌≡◌, ◌-◌, ◌++◌, [], ◌∷◌, refl, vec_len}
use Rattle.std.proofs.lemmas.Result.{err_from_is_err_and}
use Rattle.s2_rows.specs.Readings.{after}
use Rattle.s2_judging.specs.Hard.{bits_of}
use Rattle.s2_judging.proofs.BitTokens.{reads_token, reads_fault, reads_too_many, not_passed_over, no_token}
use Rattle.s2_judging.proofs.hard.read_bit_line.Goals as goal

pub returns-then-len-count-clause-read : goal.returns-then-len-count-clause-read
returns-then-len-count-clause-read g c = λ more.
    ap (λ tokens. after c.args.values.now.items (bits_of (c.args.count - vec_len c.args.values.now) tokens)) (not_passed_over _ _ more (search rules))
    ∙ c.loop-rest.invariant.0 more ∙ reads_too_many _ _ _ _ _ _ more c.cut_token.ensures.pieces (search rules) (omega arith)

pub returns-in_err-value-clause-read : goal.returns-in_err-value-clause-read
returns-in_err-value-clause-read g c = λ more.
    let p = err_from_is_err_and c.from_residual.result c.from_residual.ensures.1 in
    rw (p.1, p.2)
    (ap (λ tokens. after c.args.values.now.items (bits_of (c.args.count - vec_len c.args.values.now) tokens)) (not_passed_over _ _ more (search rules))
    ∙ c.loop-rest.invariant.0 more ∙ reads_fault _ _ _ _ _ _ more c.cut_token.ensures.pieces (search rules) c.in_err-value.field-0.0 (omega arith) c.in_err-value.ensures)

pub loop-rest-preserved-in_ok-value : goal.loop-rest-preserved-in_ok-value
loop-rest-preserved-in_ok-value g c =
    let items : c.push.new.self.items ≡ c.loop-rest.values.items ++ c.in_ok-value.value ∷ [] = search rules in
    let left : c.args.count - vec_len c.push.new.self ≡ c.args.count - vec_len c.loop-rest.values - 1 = search rules in
    (λ more. c.loop-rest.invariant.0 more ∙ reads_token _ _ _ _ _ _ more c.cut_token.ensures.pieces (search rules) c.in_ok-value.value (omega arith) c.in_ok-value.ensures ∙ rw (items, left) refl, search rules, search rules)

pub returns-clause-read : goal.returns-clause-read
returns-clause-read g c = λ more.
    ap (λ tokens. after c.args.values.now.items (bits_of (c.args.count - vec_len c.args.values.now) tokens)) (not_passed_over _ _ more (search rules))
    ∙ c.loop-rest.invariant.0 more ∙ ap (λ tokens. after c.loop-rest.values.items (bits_of (c.args.count - vec_len c.loop-rest.values) tokens)) (no_token _ _ more (search rules))
