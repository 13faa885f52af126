use Rattle.std.proofs.Common.{◌≡◌, ◌+◌, ◌<◌, ◌≤◌, ℕ, Bool, List, length, length-drop, drop, [], nat_lt, ltb-true, sym, ap, ◌∙◌, arith}
use Rattle.std.specs.Io.KnownBytes.{prepend_known}
use Rattle.std.proofs.lemmas.List.{drop_all, nil_from_length}
use Rattle.s2_resync.specs.Syncs.{has_sync}
use Rattle.s2_resync.specs.Packets.{begins}
use Rattle.s2_resync.specs.declared.seek.Step.{Step}
use Rattle.s2_resync.specs.Steps.{Leads, after_gap, step_outcome}
use Rattle.s2_resync.proofs.StepLemmas.{begins_known, some_wanted, turn_led, whole_packet}
use Rattle.s2_resync.proofs.seek.seek.Goals as goal

pub returns-then-begins-clause-begins : goal.returns-then-begins-clause-begins
returns-then-begins-clause-begins g c = λ _.
    begins_known c.seek.step.in_step c.hold.new.held.items (g.R.CountedRead.remaining c.hold.new.reader)
    (ap (begins c.seek.step.in_step) (sym c.deref.ensures.value) ∙ sym c.begins.ensures ∙ c.if-begins.true)

pub returns-then-is_empty-clause-ends : goal.returns-then-is_empty-clause-ends
returns-then-is_empty-clause-ends g c = λ _.
    let held = c.hold.new.held in
    let none : held.len ≡ 0 = grind (arith, c.is_empty.ensures, c.if-is_empty.true) in (
      nil_from_length held.items (omega (arith, none, held.ok.0)),
      c.in_ok-hold.ensures.end (omega (arith, none, some_wanted c.seek.step.in_step c.wanted-wanted.result c.wanted-wanted.ensures)),
    )

pub returns-then-is_last-clause-leads : goal.returns-then-is_last-clause-leads
returns-then-is_last-clause-leads g c =
    let held = c.hold.new.held in
    let at = c.deref-in-seek.ensures.value in
    let gap = c.gap_in-count.ensures in
    let long : c.len.result ≡ length held.items = omega (arith, c.len.ensures, held.ok.0) in
    turn_led _ c.seek.step c.leave_out.new.step _ (g.R.CountedRead.remaining c.hold.new.reader) held.items c.leave_out.new.ahead.items c.gap_in-count.result c.wanted-wanted.result
    (nat_lt c.len.result c.wanted-wanted.result) c.seek.invariant.0 c.in_ok-hold.ensures.bytes c.wanted-wanted.ensures (ap (λ k. nat_lt k c.wanted-wanted.result) long)
    (λ few. c.in_ok-hold.ensures.end (omega (arith, few, held.ok.0)))
    (ap (begins c.seek.step.in_step) (sym c.deref.ensures.value) ∙ sym c.begins.ensures ∙ c.if-begins.false)
    gap.further (omega (arith, gap.inside, ap length at)) (λ t. gap.last t ∙ ap length at) (λ f place a b. ap (λ (l : List ℕ). has_sync l place) (sym at) ∙ gap.none f place a b)
    c.in_ok-leave_out.ensures.gap c.in_ok-leave_out.ensures.rest

pub seek-smaller : goal.seek-smaller
seek-smaller g c =
    let more : c.leave_out.new.step.left_out ≡ c.seek.step.left_out + c.gap_in-count.result = ap (λ (s : Step). s.left_out) c.in_ok-leave_out.ensures.gap in
    omega (arith, more, c.in_ok-leave_out.ensures.fits, c.gap_in-count.ensures.further)

pub seek-preserved : goal.seek-preserved
seek-preserved g c =
    let held = c.hold.new.held in
    let at = c.deref-in-seek.ensures.value in
    let gap = c.gap_in-count.ensures in
    let long : c.len.result ≡ length held.items = omega (arith, c.len.ensures, held.ok.0) in (
      turn_led _ c.seek.step c.leave_out.new.step _ (g.R.CountedRead.remaining c.hold.new.reader) held.items c.leave_out.new.ahead.items c.gap_in-count.result c.wanted-wanted.result
          (nat_lt c.len.result c.wanted-wanted.result) c.seek.invariant.0 c.in_ok-hold.ensures.bytes c.wanted-wanted.ensures (ap (λ k. nat_lt k c.wanted-wanted.result) long)
          (λ few. c.in_ok-hold.ensures.end (omega (arith, few, held.ok.0)))
          (ap (begins c.seek.step.in_step) (sym c.deref.ensures.value) ∙ sym c.begins.ensures ∙ c.if-begins.false)
          gap.further (omega (arith, gap.inside, ap length at)) (λ t. gap.last t ∙ ap length at) (λ f place a b. ap (λ (l : List ℕ). has_sync l place) (sym at) ∙ gap.none f place a b)
          c.in_ok-leave_out.ensures.gap c.in_ok-leave_out.ensures.rest,
      c.in_ok-hold.ensures.cause ∙ c.seek.invariant.1,
      ap (λ (s : Step). s.refused) c.in_ok-leave_out.ensures.gap ∙ c.seek.invariant.2,
      omega (arith, c.leave_out.ensures.fewer, c.hold.ensures.few),
      omega (arith, c.leave_out.ensures.room, c.hold.ensures.room),
    )
