-- What `check --each` prints of certificates that follow each other in a file (own).
use Rattle.std.specs.Prelude.{◌≡◌, ◌⊎◌, ℕ, List, [], ◌∷◌, ◌++◌, map, length, ⊤, Option, Some, None, IfSome, Result, Ok, Err}
use Rattle.std.specs.Io.KnownBytes.{Consumes, Appends, IsAtEnd}
use Rattle.std.specs.List.{flat_map}
use Rattle.s2_mode.specs.Pieces.{AppendsPart}
use Rattle.s2_rows.specs.Rows.{Rows}
use Rattle.s2_certfile.specs.File.{File}
use Rattle.s2_certfile.specs.Format.{file_of_bytes}
use Rattle.s2_io.specs.declared.exit.Exit.{Exit}
use Rattle.s2_io.specs.declared.fault.Fault.{Fault}
use Rattle.s2_io.specs.declared.fault.Fault.TheVariants as faults
use Rattle.s2_io.specs.Exits.{exit_of, CommandCounts, Complains}
use Rattle.s2_io.specs.Screens.{Screen}
use Rattle.s2_evidence.specs.Checking.{IsAnswered}
use Rattle.s2_evidence.specs.Each.{SaysEach, max_each}
use Rattle.s2_inputs.specs.Inputs.{taken, rows_in}
use Rattle.s2_evidence.specs.Pieces.{TakesPiece}

-- the rows have the shape of the first certificate; without a certificate there are none
abbrev pub AreRowsFor : Option (List ℕ) → List File → Rows → Type 0
AreRowsFor known [] rows = ⊤
AreRowsFor known (file ∷ files) rows = IfSome known (λ xs. rows_in file.shape xs ≡ Ok rows)

-- certificates were read one after another, and their lines are printed, with this exit so far
pub record AnsweredSoFar (before after : Option (List ℕ)) (rows : Rows) (files : List File) (exit : Exit) (old new : Option (List ℕ)) : Type 0 where
  pub pieces : List (List ℕ)
  pub text : List ℕ
  pub are : map file_of_bytes pieces ≡ map Ok files
  pub read : Consumes before after (flat_map (λ piece. piece) pieces)
  pub said : SaysEach (λ file. IsAnswered (rows, file)) files exit text
  pub printed : Appends old new text

-- one more certificate was read, and a part of its line is printed, and not all
pub record CutLine (known before after : Option (List ℕ)) (rows : Rows) (files : List File) (old new : Option (List ℕ)) : Type 0 where
  pub file : File
  pub exit : Exit
  pub line : List ℕ
  pub read : TakesPiece before after (Ok (Some file))
  pub rows_are : AreRowsFor known (files ++ file ∷ []) rows
  pub said : IsAnswered (rows, file) exit line
  pub part : AppendsPart line old new

-- the rows are refused before the first line: for their length, or as rows of the first certificate's shape
abbrev pub AreRowsRefused : Option (List ℕ) → Option (List ℕ) → Option (List ℕ) → Fault → Type 0
AreRowsRefused known before after fault = IfSome known (λ xs. (taken xs ≡ Err fault)
    ⊎ ((file : File) × TakesPiece before after (Ok (Some file)) × (rows_in file.shape xs ≡ Err fault)))

-- why no more lines are printed if no writer failed: a fault of the next certificate, refused rows, or too many
-- certificates
abbrev pub Stops : Option (List ℕ) → Option (List ℕ) → Option (List ℕ) → List File → Fault → Type 0
Stops known before after files fault = TakesPiece before after (Err fault)
    ⊎ (((files ≡ []) × AreRowsRefused known before after fault) ⊎ ((length files ≡ max_each) × (fault ≡ faults.TooLong)))

-- After the lines of these certificates comes the end of the file, and the exit is theirs. Or only a first part of the
-- next line is printed. Or a fault comes, and no more is printed
abbrev pub EndsEach : Option (List ℕ) → Option (List ℕ) → Option (List ℕ) → Rows → List File → Exit → Option (List ℕ) → Option (List ℕ) → Result Exit Fault → Type 0
EndsEach known before after rows files exit old new (Ok ended) = (ended ≡ exit) × TakesPiece before after (Ok None) × (new ≡ old)
EndsEach known before after rows files exit old new (Err faults.Write) = CutLine known before after rows files old new
EndsEach known before after rows files exit old new (Err fault) = Stops known before after files fault × (new ≡ old)

-- `check --each` on a row file with these bytes and a file of certificates. It printed the line of each certificate
-- that was read, before the next one was read
pub record ChecksEach (known before after : Option (List ℕ)) (ended : Result Exit Fault) (old new : Option (List ℕ)) : Type 0 where
  pub rows : Rows
  pub files : List File
  pub exit : Exit
  pub read_to : Option (List ℕ)
  pub printed_to : Option (List ℕ)
  pub so_far : AnsweredSoFar before read_to rows files exit old printed_to
  pub rows_are : AreRowsFor known files rows
  pub ends : EndsEach known read_to after rows files exit printed_to new ended

-- `check --each` has ended: it ran on its files, only failed calls were counted, and the line of a fault is on the
-- errors
abbrev pub CheckEachExits : Option (List ℕ) → Option (List ℕ) → Option (List ℕ) → Screen → Screen → Exit → ℕ → ℕ → Type 0
CheckEachExits rows certificates certificates_after old new exit reads reads_after =
    (ended : Result Exit Fault) × (exit ≡ exit_of ended) × ChecksEach rows certificates certificates_after ended old.output new.output
    × CommandCounts ended reads reads_after old.output_failed new.output_failed × Complains ended old new

-- ---- one step

-- the line of the next certificate was printed, or a part of it; there was none, or a fault
pub record AnswersNext (before after : Option (List ℕ)) (rows : Rows) (Wrote : Exit → List ℕ → Type 0) : Type 0 where
  pub file : File
  pub exit : Exit
  pub line : List ℕ
  pub read : TakesPiece before after (Ok (Some file))
  pub said : IsAnswered (rows, file) exit line
  pub wrote : Wrote exit line

abbrev pub ChecksNext : Option (List ℕ) → Option (List ℕ) → Rows → Option (List ℕ) → Option (List ℕ) → Result (Option Exit) Fault → Type 0
ChecksNext before after rows old new (Ok None) = TakesPiece before after (Ok None) × (new ≡ old)
ChecksNext before after rows old new (Ok (Some exit)) = AnswersNext before after rows (λ is line. (exit ≡ is) × Appends old new line)
ChecksNext before after rows old new (Err faults.Write) = AnswersNext before after rows (λ is line. AppendsPart line old new)
ChecksNext before after rows old new (Err fault) = TakesPiece before after (Err fault) × (new ≡ old)
