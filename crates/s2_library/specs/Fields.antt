-- The structs that C shares (own).
use Rattle.std.specs.Prelude.{ℕ, ◌-◌, ◌/◌, ◌%◌, min, nat_le, Bool, pos, replicate, Option, Some, None, if◌then◌else◌, is_some}
use Rattle.s2_mode.specs.Mode.{Mode, n_of, k_of, kbch_of, q_of, width_of, symbols_in}
use Rattle.s2_check.specs.declared.verdict.Verdict.{Verdict}
use Rattle.s2_check.specs.declared.verdict.Verdict.TheVariants as verdicts
use Rattle.s2_bbframe.specs.declared.header.HeaderFault.TheVariants as faults
use Rattle.s2_equalize.specs.declared.equalizer.Removed.{Removed}
use Rattle.s2_report.specs.declared.report.Outcome.{Outcome}
use Rattle.s2_report.specs.declared.report.Outcome.TheVariants as outcomes
use Rattle.s2_report.specs.declared.report.Report.{Report}
use Rattle.s2_report.specs.declared.report.Step.{Step}
use Rattle.s2_report.specs.declared.report.Step.TheVariants as steps
use Rattle.s2_report.specs.declared.totals.Totals.{Totals}
use Rattle.s2_report.specs.declared.figures.Figures.{Figures}
use Rattle.s2_report.specs.declared.figures.Sums.{Sums}
use Rattle.s2_library.specs.declared.mode.ModeFields.{ModeFields}
use Rattle.s2_library.specs.declared.step.StepFields.{StepFields}
use Rattle.s2_scan.specs.declared.candidate.Candidate.{Candidate}
use Rattle.s2_library.specs.declared.scanner.SeenFields.{SeenFields}
use Rattle.s2_library.specs.declared.totals.TotalsFields.{TotalsFields}
use Rattle.s2_library.specs.declared.figures.FiguresFields.{FiguresFields}

-- a truth as a number
abbrev pub flag_of : Bool → ℕ
flag_of truth = if truth then 1 else 0

-- the numbers of a mode
abbrev pub mode_fields : Mode → ModeFields
mode_fields m = record {
  size = 64;
  n = n_of m;
  k = k_of m;
  kbch = kbch_of m;
  bits = width_of m;
  symbols = symbols_in m;
  group = 360;
  groups = k_of m / 360;
  q = q_of m;
  reserved = replicate 7 0;
}

-- the number of a verdict
abbrev pub verdict_number : Verdict → ℕ
verdict_number verdicts.Broken = 0
verdict_number verdicts.Parity = 1
verdict_number verdicts.MostLikely = 2
verdict_number verdicts.Sole = 3

-- the number of an outcome
abbrev pub outcome_number : Outcome → ℕ
outcome_number (outcomes.Delivered fixed) = 0
outcome_number outcomes.NoWord = 1
outcome_number (outcomes.BadHeader faults.BadCrc) = 2
outcome_number (outcomes.BadHeader faults.OtherStream) = 3
outcome_number (outcomes.BadHeader faults.BadLengths) = 4

-- the bits that the outer code changed, 0 if the frame was not delivered
abbrev pub fixed_in : Outcome → ℕ
fixed_in (outcomes.Delivered fixed) = fixed
fixed_in outcomes.NoWord = 0
fixed_in (outcomes.BadHeader fault) = 0

-- a step of this kind, at this symbol
abbrev pub step_of_kind : ℕ → ℕ → ℕ → StepFields
step_of_kind kind at symbols = record {
  size = 80;
  kind = kind;
  verdict = 0;
  outcome = 0;
  fixed = 0;
  has_figures = 0;
  turn = 0;
  reserved0 = 0;
  number = 0;
  at = at;
  symbols = symbols;
  reserved = replicate 6 0;
}

-- the step of a frame
abbrev pub frame_fields : Report → StepFields
frame_fields report = record {
  size = 80;
  kind = 1;
  verdict = verdict_number report.verdict;
  outcome = outcome_number report.outcome;
  fixed = fixed_in report.outcome;
  has_figures = flag_of (is_some report.figures);
  turn = report.turn;
  reserved0 = 0;
  number = report.number;
  at = report.at;
  symbols = 0;
  reserved = replicate 6 0;
}

-- a step, or that there is none yet
abbrev pub step_fields : Option Step → StepFields
step_fields None = step_of_kind 0 0 0
step_fields (Some (steps.Frame report)) = frame_fields report
step_fields (Some (steps.Cut at symbols)) = step_of_kind 2 at symbols
step_fields (Some steps.End) = step_of_kind 3 0 0

-- totals
abbrev pub totals_fields : Totals → TotalsFields
totals_fields t = record {
  size = 120;
  cut = flag_of t.cut;
  frames = t.frames;
  delivered = t.delivered;
  packets = t.packets;
  bad = t.bad;
  incomplete = t.incomplete;
  skipped = t.skipped;
  places = t.places;
  first = t.first;
  refused = t.refused;
  energy = t.energy;
  reserved = replicate 4 0;
}

-- what the equalizer took out of a frame, or zeros if it was not used
abbrev pub removed_or_zeros : Option Removed → Removed
removed_or_zeros None = record { gain = record { re = pos 0; im = pos 0 }; rotation = record { re = pos 0; im = pos 0 } }
removed_or_zeros (Some r) = r

-- the figures of a frame, and what the equalizer took out of it
abbrev pub figures_fields : Figures → FiguresFields
figures_fields f = record {
  size = 144;
  header = f.header;
  rounds = f.rounds;
  equalized = flag_of (is_some f.removed);
  changed = f.changed.sum;
  changed_of = f.changed.of;
  known = f.known.sum;
  known_of = f.known.of;
  payload = f.payload.sum;
  payload_of = f.payload.of;
  known_power = f.known_correlation.power;
  known_along = f.known_correlation.along;
  known_across = f.known_correlation.across;
  payload_power = f.payload_correlation.power;
  payload_along = f.payload_correlation.along;
  payload_across = f.payload_correlation.across;
  gain_along = (removed_or_zeros f.removed).gain.re;
  gain_across = (removed_or_zeros f.removed).gain.im;
  rotation_along = (removed_or_zeros f.removed).rotation.re;
  rotation_across = (removed_or_zeros f.removed).rotation.im;
}

-- sums of figures; those of header, rounds, correlations and the equalizer are not kept
abbrev pub sums_fields : Sums → FiguresFields
sums_fields s = record {
  size = 144;
  header = 0;
  rounds = 0;
  equalized = 0;
  changed = s.changed.sum;
  changed_of = s.changed.of;
  known = s.known.sum;
  known_of = s.known.of;
  payload = s.payload.sum;
  payload_of = s.payload.of;
  known_power = s.known_power;
  known_along = pos 0;
  known_across = pos 0;
  payload_power = s.payload_power;
  payload_along = pos 0;
  payload_across = pos 0;
  gain_along = pos 0;
  gain_across = pos 0;
  rotation_along = pos 0;
  rotation_across = pos 0;
}

-- A kind of headers that a scanner has seen. Its form says in which way the symbols are changed
abbrev pub seen_fields : Candidate → SeenFields
seen_fields c = record {
  size = 96;
  modcod = min (c.header / 4) 28;
  is_short = c.header / 2 % 2;
  has_pilots = c.header % 2;
  turn = (4 - c.form % 8 % 4) % 4;
  conjugate = flag_of (nat_le 4 (c.form % 8));
  little_endian = flag_of (nat_le 8 c.form);
  reserved0 = 0;
  seen = c.seen;
  pairs = c.pairs;
  first = c.first;
  every = c.every;
  amplitude = c.amplitude;
  reserved = replicate 3 0;
}
