-- The failed calls on the files of records (own).
use Rattle.std.specs.Prelude.{ℕ, ◌+◌, Option}
use Rattle.s2_mode.specs.Counts.{counted_with}
use Rattle.s2_io.specs.declared.truncating.Truncating.{Truncating}
use Rattle.s2_receive.specs.Sinks.{wanted_count}
use Rattle.s2_records.specs.Records.{Framing}
use Rattle.s2_records.specs.Recording.{Recorder}
use Rattle.s2_record_files.specs.declared.record_files.RecordFiles.{RecordFiles}

-- a file that may be given
abbrev pub File : Type 0 → Type 0
File W = Option (Truncating W)

-- one with a mode
abbrev pub Framed : Type 0 → Type 0
Framed W = Option (Framing (Truncating W))

-- those of words and of BBFRAMEs
abbrev pub Words : Type 0 → Type 0
Words W = File W × Framed W

-- those of labels and of symbols
abbrev pub Symbols : Type 0 → Type 0
Symbols W = Framed W × Framed W

-- those of a receiver: the records of a piece, certificates, soft values, words and BBFRAMEs
abbrev pub Received : Type 0 → Type 0
Received W = Option (Recorder (Truncating W)) × (File W × (File W × Words W))

-- those of a transmitter: codewords, BBFRAMEs, labels and symbols
abbrev pub Sent : Type 0 → Type 0
Sent W = File W × (Framed W × Symbols W)

-- the failed calls of each, by the count of its writer
abbrev pub file_failed : {W : Type 0} → (W → ℕ) → File W → ℕ
file_failed count file = wanted_count (λ t. count t.to) file

abbrev pub framed_failed : {W : Type 0} → (W → ℕ) → Framed W → ℕ
framed_failed count file = wanted_count (λ f. count f.to.to) file

abbrev pub recorder_failed : {W : Type 0} → (W → ℕ) → Option (Recorder (Truncating W)) → ℕ
recorder_failed count recorder = wanted_count (λ r. counted_with (count r.to.to) r.refused) recorder

-- those of the files of words and of BBFRAMEs
abbrev pub words_failed : {W : Type 0} → (W → ℕ) → Words W → ℕ
words_failed count records = file_failed count records.0 + framed_failed count records.1

-- those of the files of labels and of symbols
abbrev pub symbols_failed : {W : Type 0} → (W → ℕ) → Symbols W → ℕ
symbols_failed count records = framed_failed count records.0 + framed_failed count records.1

-- those of all files of a receiver
abbrev pub received_failed : {W : Type 0} → (W → ℕ) → Received W → ℕ
received_failed count records =
    recorder_failed count records.0 + (file_failed count records.1.0 + (file_failed count records.1.1.0 + words_failed count records.1.1.1))

-- those of all files of a transmitter
abbrev pub sent_failed : {W : Type 0} → (W → ℕ) → Sent W → ℕ
sent_failed count records = file_failed count records.0 + (framed_failed count records.1.0 + symbols_failed count records.1.1)

-- the failed calls on all files of records, of a receiver and of a transmitter
abbrev pub records_failed : {W : Type 0} → (W → ℕ) → RecordFiles W → ℕ
records_failed count records = received_failed count records.received + sent_failed count records.sent
