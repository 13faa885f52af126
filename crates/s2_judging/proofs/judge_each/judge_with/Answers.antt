use Rattle.std.proofs.Common.{refl, sym, ◌∙◌, ap, subst}
use Rattle.s2_judging.specs.Bytewise.{pending}
use Rattle.s2_judging.proofs.JudgeEachLemmas.{no_memory, start_words, start_spends, words_moved}
use Rattle.s2_judging.proofs.judge_each.judge_with.Goals as goal

pub returns-in_default-clause-judges : goal.returns-in_default-clause-judges
returns-in_default-clause-judges g c = no_memory c.args.hard _ _ _ _ _ _

pub returns-clause-judges : goal.returns-clause-judges
returns-clause-judges g c =
    let known = g.R.CountedRead.remaining c.args.soft.now in
    let f = c.in-Ok.frames in
    words_moved c.args.hard _ _ _ known _ _ _ _ _ _ _ refl (ap (λ h. pending h f.reading f.buffer.items known) c.in-Ok.ensures.parts.0 ∙ start_words c.args.hard f.buffer.items f.reading known c.in-Ok.ensures.start)
    (c.judge_frames.ensures.judges known (start_spends known f.reading c.in-Ok.ensures.start))
