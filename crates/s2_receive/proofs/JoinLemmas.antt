-- The packets that are written, and the events that come to the joiner.
use Rattle.s2_receive.proofs.Names.{◌≡◌, ◌+◌, true, false, cond, List, [], ◌∷◌, ◌++◌, None, length, refl, sym, ap, ◌∙◌, length-append, arith, flat_map-append, gap, Joined, step, still, begun_body, incomplete_in, incomplete, and_then, joining, none-and_then, joining-append, joining-one, incomplete-append, Met, frame, cut, ended, is_gap, Rules, Standing, after, all_packets, packets_of, delivery, joined_after, joined, met_events, events_of, IsJoined}

-- what something met gives
abbrev gained : Rules → Standing → Met → Joined
gained rules s (frame at skipped symbols) = joined_after s.held skipped (rules.decide symbols).delivered
gained rules s (cut at skipped count) = still None
gained rules s (ended skipped) = still s.held

joining-met : (rules : Rules) (s : Standing) (met : Met) → joining s.held (met_events rules.decide met) ≡ gained rules s met
joining-met rules s (frame at skipped symbols) =
    let event = delivery (rules.decide symbols).delivered in
    elim (is_gap skipped) as (λ b. joining s.held (cond b (gap ∷ []) [] ++ event ∷ []) ≡ step (cond b None s.held) event) [
      | true ↦ none-and_then None (joining None (event ∷ [])) ∙ joining-one None event
      | false ↦ joining-one s.held event
    ]
joining-met rules s (cut at skipped count) = joining-one s.held gap
joining-met rules s (ended skipped) = refl

-- it is what stands afterwards
gained-all : (rules : Rules) (s : Standing) (met : Met)
    → (packets_of rules s met ≡ joined (gained rules s met).good) × ((after rules s met).held ≡ (gained rules s met).held)
    × ((after rules s met).totals.packets ≡ s.totals.packets + length (gained rules s met).good)
    × ((after rules s met).totals.bad ≡ s.totals.bad + (gained rules s met).bad)
    × ((after rules s met).totals.incomplete ≡ s.totals.incomplete + incomplete s.held (met_events rules.decide met))
gained-all rules s (frame at skipped symbols) =
    let event = delivery (rules.decide symbols).delivered in (
      refl,
      refl,
      refl,
      refl,
      elim (is_gap skipped) as (λ b. s.totals.incomplete + (cond b (begun_body s.held) 0 + incomplete_in (cond b None s.held) event) ≡ s.totals.incomplete + incomplete s.held (cond b (gap ∷ []) [] ++ event ∷ [])) [
        | true ↦ omega arith
        | false ↦ omega arith
      ],
    )
gained-all rules s (cut at skipped count) = (refl, refl, omega arith, omega arith, omega arith)
gained-all rules s (ended skipped) = (refl, refl, omega arith, omega arith, omega arith)

pub all_joined : (rules : Rules) (s : Standing) (met : List Met) → IsJoined rules s met
all_joined rules s [] = record { held = refl; packets = refl; good = omega arith; bad = omega arith; incomplete_is = omega arith }
all_joined rules s (m ∷ ms) =
    let t = after rules s m in
    let one = gained rules s m in
    let events = events_of rules.decide ms in
    let (packets, kept, good, bad, incomplete_is) = gained-all rules s m in
    let ih = all_joined rules t ms in
    let rest = joining one.held events in
    let held : joining t.held events ≡ rest = ap (λ h. joining h events) kept in
    let all : joining s.held (met_events rules.decide m ++ events) ≡ and_then one rest =
    joining-append (met_events rules.decide m) events s.held ∙ ap (λ j. and_then j (joining j.held events)) (joining-met rules s m) in
    let long = length-append one.good rest.good in
    let same : incomplete t.held events ≡ incomplete (joining s.held (met_events rules.decide m)).held events = ap (λ h. incomplete h events) (kept ∙ ap (λ j. j.held) (sym (joining-met rules s m))) in
    record {
      held = ih.held ∙ ap (λ j. j.held) held ∙ ap (λ j. j.held) (sym all);
      packets = ap (λ l. l ++ all_packets rules t ms) packets ∙ ap (λ l. joined one.good ++ l) (ih.packets ∙ ap (λ j. joined j.good) held)
          ∙ sym (flat_map-append (λ p. p) one.good rest.good) ∙ ap (λ j. joined j.good) (sym all);
      good = ih.good ∙ ap (λ j. t.totals.packets + length j.good) held ∙ omega (arith, good, long) ∙ ap (λ j. s.totals.packets + length j.good) (sym all);
      bad = ih.bad ∙ ap (λ j. t.totals.bad + j.bad) held ∙ omega (arith, bad) ∙ ap (λ j. s.totals.bad + j.bad) (sym all);
      incomplete_is = omega (arith, ih.incomplete_is, incomplete_is, incomplete-append (met_events rules.decide m) events s.held, same);
    }
