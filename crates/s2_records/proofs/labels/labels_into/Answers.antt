use Rattle.std.proofs.Common.{◌*◌, ◌≤◌, ◌∙◌, length, arith}
use Rattle.std.proofs.lemmas.List.FromFn.{fill_by_all}
use Rattle.s2_mode.specs.Mode.{slots_of}
use Rattle.s2_records.specs.Vectors.{label_at}
use Rattle.s2_records.proofs.labels.labels_into.Goals as goal

pub returns : goal.returns
returns c =
    let all : length c.args.labels.now ≤ c.loop-s.s = omega (arith, c.loop-s-test.false) in
    fill_by_all (label_at c.args.mode c.args.codeword.now) c.loop-s.labels (90 * slots_of c.args.mode) 0 (c.loop-s.auto.labels ∙ c.requires.room)
    (λ k lt. c.loop-s.invariant k (omega (arith, lt, all, c.requires.room)))
