-- The counts of a comparison, and its exit (own).
use Rattle.std.specs.Prelude.{◌≡◌, ℕ, ◌+◌, ◌<◌, ◌==◌, Bool, true, false, List, length, count_by, if◌then◌else◌}
use Rattle.s2_io.specs.declared.exit.Exit.{Exit}
use Rattle.s2_io.specs.declared.exit.Exit.TheVariants as exits
use Rattle.s2_compare.specs.declared.compared.Compared.{Compared}
use Rattle.s2_compare.specs.declared.compared.Compared.TheVariants as answers
use Rattle.s2_compare.specs.declared.counts.Counts.{Counts}

abbrev pub is_same : Compared → Bool
is_same (answers.Same verdict paid) = true
is_same (answers.Equal paid changed) = false
is_same (answers.Worse paid best changed) = false
is_same (answers.NoCodeword checks changed) = false
is_same answers.Refused = false
is_same answers.Missing = false

abbrev pub is_equal : Compared → Bool
is_equal (answers.Same verdict paid) = false
is_equal (answers.Equal paid changed) = true
is_equal (answers.Worse paid best changed) = false
is_equal (answers.NoCodeword checks changed) = false
is_equal answers.Refused = false
is_equal answers.Missing = false

abbrev pub is_worse : Compared → Bool
is_worse (answers.Same verdict paid) = false
is_worse (answers.Equal paid changed) = false
is_worse (answers.Worse paid best changed) = true
is_worse (answers.NoCodeword checks changed) = false
is_worse answers.Refused = false
is_worse answers.Missing = false

abbrev pub is_no_codeword : Compared → Bool
is_no_codeword (answers.Same verdict paid) = false
is_no_codeword (answers.Equal paid changed) = false
is_no_codeword (answers.Worse paid best changed) = false
is_no_codeword (answers.NoCodeword checks changed) = true
is_no_codeword answers.Refused = false
is_no_codeword answers.Missing = false

abbrev pub is_refused : Compared → Bool
is_refused (answers.Same verdict paid) = false
is_refused (answers.Equal paid changed) = false
is_refused (answers.Worse paid best changed) = false
is_refused (answers.NoCodeword checks changed) = false
is_refused answers.Refused = true
is_refused answers.Missing = false

abbrev pub is_missing : Compared → Bool
is_missing (answers.Same verdict paid) = false
is_missing (answers.Equal paid changed) = false
is_missing (answers.Worse paid best changed) = false
is_missing (answers.NoCodeword checks changed) = false
is_missing answers.Refused = false
is_missing answers.Missing = true

abbrev pub no_counts : Counts
no_counts = record { frames = 0; same = 0; equal = 0; worse = 0; no_codeword = 0; refused = 0; missing = 0 }

-- a count, and one more if this holds
abbrev pub with_one : ℕ → Bool → ℕ
with_one count holds = count + (if holds then 1 else 0)

-- the counts with one more frame, of this answer
abbrev pub counted : Counts → Compared → Counts
counted counts answer = record {
  frames = counts.frames + 1;
  same = with_one counts.same (is_same answer);
  equal = with_one counts.equal (is_equal answer);
  worse = with_one counts.worse (is_worse answer);
  no_codeword = with_one counts.no_codeword (is_no_codeword answer);
  refused = with_one counts.refused (is_refused answer);
  missing = with_one counts.missing (is_missing answer);
}

-- how many frames there are, and how many of them have each answer
abbrev pub counts_of : List Compared → Counts
counts_of all = record {
  frames = length all;
  same = count_by is_same all;
  equal = count_by is_equal all;
  worse = count_by is_worse all;
  no_codeword = count_by is_no_codeword all;
  refused = count_by is_refused all;
  missing = count_by is_missing all;
}

-- each count is below a number
pub record AreBelow (most : ℕ) (counts : Counts) : Type 0 where
  pub frames : counts.frames < most
  pub same : counts.same < most
  pub equal : counts.equal < most
  pub worse : counts.worse < most
  pub no_codeword : counts.no_codeword < most
  pub refused : counts.refused < most
  pub missing : counts.missing < most

-- exit 0 if each frame is the same, else 2
abbrev pub exit_by : Counts → Exit
exit_by counts = if counts.same == counts.frames then exits.Fine else exits.No
