-- The command `audit`: its files, what it prints and how it ends (own).
use Rattle.std.specs.Prelude.{◌≡◌, ◌⊎◌, ℕ, ◌+◌, List, Option, IfSome, Result, Ok, Err}
use Rattle.s2_mode.specs.Streams.{OnlyFailed}
use Rattle.s2_mode.specs.Mode.{shape_in}
use Rattle.s2_rows.specs.Rows.{Rows}
use Rattle.s2_io.specs.declared.exit.Exit.{Exit}
use Rattle.s2_io.specs.declared.fault.Fault.{Fault}
use Rattle.s2_io.specs.declared.fault.Fault.TheVariants as faults
use Rattle.s2_io.specs.Exits.{Complains, Follows, counted, exit_of}
use Rattle.s2_io.specs.Screens.{Screen}
use Rattle.s2_link.specs.Link.{Link, link_of, setup_of}
use Rattle.s2_link.specs.declared.setup.LinkSetup.{LinkSetup}
use Rattle.s2_link.specs.declared.setup.Setup.{Setup}
use Rattle.s2_inputs.specs.Inputs.{rows_in}
use Rattle.s2_audit.specs.Audits.{AuditsAll, ReachesLimit}
use Rattle.s2_audit.specs.FrameAnswers.{terms_for}
use Rattle.s2_audit.specs.Turns.{Ends, ends_by, failures_by, total}
use Rattle.s2_audit.specs.declared.how.How.{How}

-- the unread bytes of the files of an audit, if they are known, and how many of their calls have failed
pub record Files : Type 0 where
  pub rows : Option (List ℕ)
  pub ends : Ends
  pub failed : ℕ

-- the files of six readers
abbrev pub files_by : {R : Type 0} → (R → Option (List ℕ)) → (R → ℕ) → (rows symbols report certificates : R) → (codewords packets : Option R) → Files
files_by remaining count rows symbols report certificates codewords packets = record {
  rows = remaining rows;
  ends = ends_by remaining symbols report certificates codewords packets;
  failed = count rows + total (failures_by count symbols report certificates codewords packets);
}

-- there was no memory for a frame and its evidence, and nothing is read or printed
abbrev pub LacksMemory : Ends → Ends → Option (List ℕ) → Option (List ℕ) → Result Exit Fault → Type 0
LacksMemory old new out out_new result = (result ≡ Err faults.NoMemory) × (new ≡ old) × (out_new ≡ out)

-- the report was audited on a link
abbrev pub AuditsLink : Link → How → Ends → Ends → Option (List ℕ) → Option (List ℕ) → Result Exit Fault → Type 0
AuditsLink link how old new out out_new result = LacksMemory old new out out_new result ⊎ AuditsAll (terms_for link how) old new out out_new result

-- the rows are refused, memory ran out or a read failed, and nothing is printed
abbrev pub RefusesRows : Setup → Option (List ℕ) → Option (List ℕ) → Option (List ℕ) → Result Exit Fault → Type 0
RefusesRows setup rows out out_new result =
    (f : Fault) × (result ≡ Err f) × IfSome rows (λ xs. Follows (λ (m : Rows). m) (Err f) (rows_in (shape_in setup.mode) xs)) × (out_new ≡ out)

-- The rows are read, and the report is audited under them. Or the rows are refused
abbrev pub AuditRuns : Setup → How → Files → Files → Option (List ℕ) → Option (List ℕ) → Result Exit Fault → Type 0
AuditRuns setup how old new out out_new result =
    RefusesRows setup old.rows out out_new result
    ⊎ ((rows : Rows) × IfSome old.rows (λ xs. rows_in (shape_in setup.mode) xs ≡ Ok rows) × AuditsLink (link_of setup rows) how old.ends new.ends out out_new result)

-- a read failed, or a limit was reached
abbrev pub ReadFailed : Files → Files → Type 0
ReadFailed old new = (new.failed ≡ old.failed + 1) ⊎ ((new.failed ≡ old.failed) × ReachesLimit old.ends new.ends)

-- Only failed calls were counted, and their fault is reported. If a read fault is reported, a read failed, or a limit was reached
pub record Causes (ended : Result Exit Fault) (old new : Files) (prints prints_after : ℕ) : Type 0 where
  pub only : OnlyFailed (ended ≡ Err faults.Read) (ended ≡ Err faults.Write) (counted old.failed prints) (counted new.failed prints_after)
  pub read : ended ≡ Err faults.Read → ReadFailed old new

-- `audit` has ended with this exit: so it ran on its files and its output, only failed calls were counted, and the line
-- of a fault is on the errors
abbrev pub AuditExits : Setup → How → (old new : Files) → Screen → Screen → Exit → Type 0
AuditExits setup how old new screen_old screen_new exit =
    (ended : Result Exit Fault) × (exit ≡ exit_of ended) × AuditRuns setup how old new screen_old.output screen_new.output ended
    × Causes ended old new screen_old.output_failed screen_new.output_failed × Complains ended screen_old screen_new

-- the same of six readers, before and after
abbrev pub AuditEnds : {R : Type 0} → (R → Option (List ℕ)) → (R → ℕ) → LinkSetup → How → (rows symbols report certificates : R) → (codewords packets : Option R)
    → (rows_new symbols_new report_new certificates_new : R) → (codewords_new packets_new : Option R) → Screen → Screen → Exit → Type 0
AuditEnds remaining count setup how rows symbols report certificates codewords packets rows' symbols' report' certificates' codewords' packets' screen_old screen_new exit =
    AuditExits (setup_of setup) how (files_by remaining count rows symbols report certificates codewords packets) (files_by remaining count rows' symbols' report' certificates' codewords' packets') screen_old screen_new exit
