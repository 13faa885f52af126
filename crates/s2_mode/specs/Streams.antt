-- The ends of a stream, as they are seen from outside (own).
use Rattle.std.specs.Prelude.{◌≡◌, ◌+◌, ◌⊎◌, ℕ, List, Option}

-- the unread bytes of the input, the contents of the output file and of the report, if they are known, and how many
-- calls of each have failed
pub record Streams : Type 0 where
  pub taken : Option (List ℕ)
  pub given : Option (List ℕ)
  pub out : Option (List ℕ)
  pub reads : ℕ
  pub writes : ℕ
  pub prints : ℕ

-- those of a reader and of two writers, each by its bytes and its count
abbrev pub streams_by : {R P W : Type 0} → (R → Option (List ℕ)) → (R → ℕ) → (P → Option (List ℕ)) → (P → ℕ) → (W → Option (List ℕ)) → (W → ℕ) → R → P → W → Streams
streams_by taken reads given writes out prints r p w =
    record { taken = taken r; given = given p; out = out w; reads = reads r; writes = writes p; prints = prints w }

-- of two writers, whose counts of failed calls these are, none failed
abbrev pub NoneFailed : (packets_old packets_new report_old report_new : ℕ) → Type 0
NoneFailed p p' w w' = (p' ≡ p) × (w' ≡ w)

-- or one failed, once
abbrev pub OneFailed : (packets_old packets_new report_old report_new : ℕ) → Type 0
OneFailed p p' w w' = ((p' ≡ p + 1) × (w' ≡ w)) ⊎ ((p' ≡ p) × (w' ≡ w + 1))

-- Only failed calls were counted. A count is incremented only if its fault is reported. If a fault of writing is
-- reported, exactly one of the two writers failed, once
pub record OnlyFailed (read write : Type 0) (old new : Streams) : Type 0 where
  pub no_read : (read → ⊥) → new.reads ≡ old.reads
  pub write_reported : write → OneFailed old.writes new.writes old.prints new.prints
  pub no_write : (write → ⊥) → NoneFailed old.writes new.writes old.prints new.prints
