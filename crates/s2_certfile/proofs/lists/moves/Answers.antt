use Rattle.std.proofs.Common.{rules, ◌≡◌, ◌<◌, List, true, take, All, subst, sym, ap, ◌∙◌}
use Rattle.std.proofs.lemmas.List.Elements.{All-push}
use Rattle.s2_certfile.specs.File.{IsMove}
use Rattle.s2_certfile.proofs.Ranges.{move_in_range}
use Rattle.s2_certfile.specs.declared.step.Move.{Move}
use Rattle.s2_certfile.specs.Field.{entry}
use Rattle.s2_certfile.specs.Format.{move, is_move}
use Rattle.s2_certfile.proofs.EntryLemmas.{next_rest, pushed_one, entry_passes}
use Rattle.s2_certfile.proofs.lists.moves.Goals as goal

pub loop-i-preserved : goal.loop-i-preserved
loop-i-preserved c =
    let i = c.loop-i.i in
    let bytes = c.args.bytes.now in
    let front : c.split_at.result.0.now ≡ entry move.size bytes i = c.split_at.ensures.front ∙ ap (take move.size) c.loop-i.invariant.rest in
    let passed : move.test (entry move.size bytes i) ≡ true = entry_passes (λ k. move.test (entry move.size bytes k)) c.args.n i c.requires.tests c.loop-i-test.true in
    let value = c.move_of.ensures ∙ ap move.value front in
    let small : c.move_of.result.place < 65536 = search rules in
    let one = move_in_range c.move_of.result small (ap is_move value ∙ passed) in
    let P : List Move → Type 0 = λ xs. All IsMove xs in
    record {
      rest = c.split_at.ensures.back ∙ next_rest move.size i bytes c.loop-i.rest.now c.loop-i.invariant.rest;
      values = pushed_one (λ k. move.value (entry move.size bytes k)) c.loop-i.values.items c.push.new.self.items i _ c.loop-i.invariant.values c.in_ok-push.ensures.items value;
      fit = subst P (sym c.in_ok-push.ensures.items) (All-push IsMove c.loop-i.values.items _ c.loop-i.invariant.fit one);
    }
