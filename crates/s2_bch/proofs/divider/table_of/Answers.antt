use Rattle.std.proofs.Common.{arith, ◌∙◌, ◌+◌, ◌*◌, ◌^◌, ◌∷◌, [], ap, sym, subst, length, length-append}
use Rattle.std.specs.Prelude.{drop}
use Rattle.s2_bch.specs.Generators.{generator_of}
use Rattle.s2_bch.specs.Division.{steps}
use Rattle.s2_bch.specs.Registers.{value_of}
use Rattle.s2_bch.proofs.GeneratorFacts.{some_tail}
use Rattle.s2_bch.proofs.TableFacts.{HasEntries, IsNextEntry, one_more_entry}
use Rattle.s2_bch.proofs.divider.table_of.Goals as goal

pub loop-preserved : goal.loop-preserved
loop-preserved c =
    let items = c.loop.table.items in
    let entry = c.next_entry-entry.result in
    let low = value_of c.tail_of-tail.result in
    let next = subst (IsNextEntry low entry) c.deref.ensures.value
    (record { first = c.next_entry-entry.ensures.first; later = c.next_entry-entry.ensures.later }) in
    record {
      size = omega (arith, ap length c.in_ok-push.ensures.items, length-append items (entry ∷ []), c.loop.invariant.size);
      entries = subst (HasEntries low) (sym c.in_ok-push.ensures.items) (one_more_entry low items entry c.loop.invariant.entries next);
    }

pub returns : goal.returns
returns c =
    let t = drop 1 (generator_of c.args.mode) in
    record {
      some = some_tail c.args.mode c.tail_of-tail.ensures.valid;
      fits = c.tail_of-tail.ensures.held.fits;
      size = omega arith;
      entries = λ k b hk hb. c.loop.invariant.entries k b hb (omega arith)
          ∙ ap (λ v. steps 192 v (8 * k + 8) (b * 2 ^ 184)) c.tail_of-tail.ensures.held.value;
    }
