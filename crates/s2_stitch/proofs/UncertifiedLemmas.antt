-- Lines and packets do not depend on certificates.
use Rattle.std.proofs.Common.{◌≡◌, List, [], ◌∷◌, ◌++◌, refl, ap, ◌∙◌}
use Rattle.s2_receive.specs.Meeting.{Met, frame, cut, ended}
use Rattle.s2_receive.specs.Receiving.{Rules, Standing, after, all_lines, all_packets, at_start, line_of, packets_of}
use Rattle.s2_receive.specs.Halves.{lines_in, met_in}
use Rattle.s2_stitch.specs.Laws.{UncertifiedLaw, uncertified}

module _ (rules : Rules) where
  abbrev without : Rules
  without = record rules { decide = uncertified rules.decide }

  same_lines : (s : Standing) (met : List Met) → lines_in without s met ≡ lines_in rules s met
  same_lines s [] = refl
  same_lines s (frame at skipped symbols ∷ later) = ap (λ l. line_of rules s (frame at skipped symbols) ∷ l) (same_lines (after rules s (frame at skipped symbols)) later)
  same_lines s (cut at skipped count ∷ later) = ap (λ l. line_of rules s (cut at skipped count) ∷ l) (same_lines (after rules s (cut at skipped count)) later)
  same_lines s (ended skipped ∷ later) = ap (λ l. line_of rules s (ended skipped) ∷ l) (same_lines (after rules s (ended skipped)) later)

  same_report : (s : Standing) (met : List Met) → all_lines without s met ≡ all_lines rules s met
  same_report s [] = refl
  same_report s (frame at skipped symbols ∷ later) = ap (λ l. line_of rules s (frame at skipped symbols) ++ l) (same_report (after rules s (frame at skipped symbols)) later)
  same_report s (cut at skipped count ∷ later) = ap (λ l. line_of rules s (cut at skipped count) ++ l) (same_report (after rules s (cut at skipped count)) later)
  same_report s (ended skipped ∷ later) = ap (λ l. line_of rules s (ended skipped) ++ l) (same_report (after rules s (ended skipped)) later)

  same_packets : (s : Standing) (met : List Met) → all_packets without s met ≡ all_packets rules s met
  same_packets s [] = refl
  same_packets s (frame at skipped symbols ∷ later) = ap (λ l. packets_of rules s (frame at skipped symbols) ++ l) (same_packets (after rules s (frame at skipped symbols)) later)
  same_packets s (cut at skipped count ∷ later) = ap (λ l. packets_of rules s (cut at skipped count) ++ l) (same_packets (after rules s (cut at skipped count)) later)
  same_packets s (ended skipped ∷ later) = ap (λ l. packets_of rules s (ended skipped) ++ l) (same_packets (after rules s (ended skipped)) later)

pub uncertified_too : UncertifiedLaw
uncertified_too rules recording decisions lines packets own =
    let met = met_in rules recording in
    record {
      decisions_are = refl;
      lines_are = own.lines_are ∙ same_lines rules at_start met;
      report_is = own.report_is ∙ same_report rules at_start met;
      packets_are = own.packets_are ∙ same_packets rules at_start met;
    }
