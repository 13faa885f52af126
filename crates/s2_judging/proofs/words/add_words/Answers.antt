use Rattle.std.proofs.Common.{rules, arith, refl, vec_len, vec_capacity, ◌≤◌, ◌+◌}
use Rattle.std.proofs.lemmas.Result.{err_from_is_err_and}
use Rattle.s2_judging.proofs.FrameLemmas.{goes_on, stops, all_bytes}
use Rattle.s2_judging.proofs.words.add_words.Goals as goal

pub loop-at-init : goal.loop-at-init
loop-at-init c = record {
  begun = λ words more h. h;
  room = c.requires.room;
  most = c.requires.most;
  lines = omega arith;
  range = c.requires.range;
}

pub returns-in_err-add_word-clause-added : goal.returns-in_err-add_word-clause-added
returns-in_err-add_word-clause-added c =
    let p = err_from_is_err_and c.from_residual.result c.from_residual.ensures.1 in
    rw (p.1, p.2) (λ words more h.
    stops c.args.hard c.loop-at.position c.args.bytes.now more c.loop-at.at (omega arith) c.ended.result (search rules) c.args.count words c.loop-at.values.items c.in_err-add_word.field-0.0 (omega arith)
    c.in_err-add_word.ensures.added (c.loop-at.invariant.begun words more h))

pub loop-at-preserved : goal.loop-at-preserved
loop-at-preserved c = record {
  begun = λ words more h.
      goes_on c.args.hard c.loop-at.position c.args.bytes.now more c.loop-at.at (omega arith) c.ended.result (search rules) c.after-position.result (search rules) words c.loop-at.values.items c.add_word.new.values.items
      c.in_ok-add_word.ensures.added (c.loop-at.invariant.begun words more h);
  room = omega (arith, c.loop-at.invariant.room, c.in_ok-add_word.ensures.room);
  most = omega (arith, c.in_ok-add_word.ensures.few);
  lines = search rules;
  range = c.in_ok-add_word.ensures.range;
}

pub returns-clause-added : goal.returns-clause-added
returns-clause-added c = λ words more h. all_bytes c.args.hard c.loop-at.position c.args.bytes.now more c.loop-at.at _ (omega arith) (search rules) words c.loop-at.values.items (c.loop-at.invariant.begun words more h)
