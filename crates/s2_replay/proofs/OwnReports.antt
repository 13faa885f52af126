-- A receiver's own report.
use Rattle.std.proofs.Common.{◌≡◌, ℕ, List, [], ◌∷◌, subst, sym}
use Rattle.s2_mode.specs.declared.symbols.Symbol.{Symbol}
use Rattle.s2_receive.specs.Meeting.{Met, frame, cut, ended}
use Rattle.s2_receive.specs.Receiving.{Decision, Rules, Standing, after, at_start}
use Rattle.s2_receive.specs.Halves.{RunsBy, deciding, met_behind}
use Rattle.s2_receive.proofs.OwnRuns.{own_run}
use Rattle.s2_replay.specs.Laws.{OwnReportLaw}
use Rattle.s2_replay.specs.Replay.{IsBorneOut, rules_for}

-- a run by decisions of which more is known, whatever else the rules would decide
module _ (Old New : List Symbol → Decision → Type 0) (may : (symbols : List Symbol) (d : Decision) → Old symbols d → New symbols d) (rules : Rules) (decide : List Symbol → Decision) (recording : List Symbol) where
  abbrev other : Rules
  other = record rules { decide = decide }

  shown_too : (s : Standing) (met : List Met) (decisions : List Decision) (lines : List (List ℕ)) (packets : List ℕ) → RunsBy Old other recording s met decisions lines packets → RunsBy New rules recording s met decisions lines packets
  shown_too s (frame at skipped symbols ∷ later) (d ∷ more) (line ∷ lines) packets (shown, is, (rest, packets_are, runs)) =
      (may symbols d shown, is, (rest, packets_are, shown_too (after (deciding rules d) s (frame at skipped symbols)) (met_behind rules recording at d) more lines rest runs))
  shown_too s (frame at skipped symbols ∷ later) [] lines packets runs = absurd runs
  shown_too s (frame at skipped symbols ∷ later) (d ∷ more) [] packets runs = absurd runs
  shown_too s (cut at skipped count ∷ later) decisions (line ∷ lines) packets (is, runs) = (is, shown_too (after rules s (cut at skipped count)) later decisions lines packets runs)
  shown_too s (cut at skipped count ∷ later) decisions [] packets runs = absurd runs
  shown_too s (ended skipped ∷ later) decisions (line ∷ lines) packets (is, runs) = (is, shown_too (after rules s (ended skipped)) later decisions lines packets runs)
  shown_too s (ended skipped ∷ later) decisions [] packets runs = absurd runs
  shown_too s [] decisions [] packets runs = runs
  shown_too s [] decisions (line ∷ lines) packets runs = absurd runs

pub own_report : OwnReportLaw
own_report t decide recording decisions own lines packets borne is_own are =
    let rules = rules_for t in
    let run = (own_run (record rules { decide = decide }) recording decisions own packets).1 is_own in
    (own, shown_too (λ symbols d. d ≡ decide symbols) (IsBorneOut t) (λ symbols d is. subst (IsBorneOut t symbols) (sym is) (borne symbols)) rules decide recording at_start _ decisions own packets run, are)
