-- The report of a join: its counts, its lines and its exit (own).
use Rattle.std.specs.Prelude.{ℕ, ◌+◌, ◌*◌, ◌≤◌, nat_eq, Bool, true, false, ◌&&◌, if◌then◌else◌, List, [], ◌++◌, length, count_by, Option, Some, None}
use Rattle.s2_mode.specs.Mode.{Mode}
use Rattle.s2_bbframe.specs.Joining.{step}
use Rattle.s2_bbframe.specs.declared.header.Header.{Header}
use Rattle.s2_receive.specs.Receiving.{count_of}
use Rattle.s2_report.specs.Figures.{no_totals}
use Rattle.s2_report.specs.ReportLines.{cut_bytes_line, end_line}
use Rattle.s2_report.specs.declared.totals.Totals.{Totals}
use Rattle.s2_io.specs.declared.exit.Exit.{Exit}
use Rattle.s2_io.specs.declared.exit.Exit.TheVariants as exits
use Rattle.s2_records.specs.declared.join_counts.Counts.{Counts}
use Rattle.s2_records.specs.declared.join_counts.FrameCounts.{FrameCounts}
use Rattle.s2_records.specs.declared.join_counts.Summary.{Summary}
use Rattle.s2_records.specs.Frames.{frame_bytes, delivered_in, event_of, joined_from, frames_in, cut_in}

-- whether a frame delivers a data field
abbrev pub is_delivered : Option (Header × List ℕ) → Bool
is_delivered (Some pair) = true
is_delivered None = false

-- the counts of frames: their number, the number of those with an accepted header, the packets, and the bodies with a
-- wrong CRC-8
abbrev pub counts_of : Mode → List (List ℕ) → Counts
counts_of m frames =
    record {
      frames = length frames;
      delivered = count_by (λ frame. is_delivered (delivered_in m frame)) frames;
      packets = length (joined_from m frames).good;
      bad = (joined_from m frames).bad;
    }

-- the counts of one more frame, for a joiner that holds this
abbrev pub counts_by : Mode → Option (List ℕ) → List ℕ → FrameCounts
counts_by m held frame =
    record { delivered = count_of (delivered_in m frame); packets = length (step held (event_of m frame)).good; bad = (step held (event_of m frame)).bad }

-- no more than a frame can give
abbrev pub IsFew : FrameCounts → Type 0
IsFew frame = (frame.delivered ≤ 1) × (frame.packets + frame.bad ≤ 8191)

-- the counts with those of one more frame
abbrev pub counted : Counts → FrameCounts → Counts
counted counts frame =
    record { frames = counts.frames + 1; delivered = counts.delivered + frame.delivered; packets = counts.packets + frame.packets; bad = counts.bad + frame.bad }

-- the counts of a file, and the bytes of an incomplete last frame
abbrev pub summary_of : Mode → List ℕ → Summary
summary_of m bytes = record { counts = counts_of m (frames_in m bytes); cut = cut_in m bytes }

-- these counts among the totals of a report; a join knows no symbols, and has no figures
abbrev pub totals_of : Counts → Totals
totals_of counts =
    record no_totals { frames = counts.frames; delivered = counts.delivered; packets = counts.packets; bad = counts.bad }

-- the line of an incomplete last frame, if there is one: its position and its number of bytes
abbrev pub cut_words : Mode → Summary → List ℕ
cut_words m s = if nat_eq s.cut 0 then [] else cut_bytes_line (frame_bytes m * s.counts.frames) s.cut

-- the report: the line of a cut frame, if there is one, and the end line of a receiver's report
abbrev pub report_of : Mode → Summary → List ℕ
report_of m s = cut_words m s ++ end_line (totals_of s.counts)

-- exit 0 if each frame was delivered, no packet was bad, and no frame is cut, else 2
abbrev pub exit_by : Summary → Exit
exit_by s = if nat_eq s.counts.delivered s.counts.frames && nat_eq s.counts.bad 0 && nat_eq s.cut 0 then exits.Fine else exits.No
