-- Known bytes of a file (own).
use Rattle.std.specs.Prelude.{ℕ, List, Option}
use Rattle.std.specs.Io.Buffered.{writer_contents}
use Rattle.std.specs.declared.io.buffered.BufWriter.{BufWriter}
use Rattle.either.specs.Either.{either}
use Rattle.either.specs.declared.Either.{Either}
use Rattle.s2_io.specs.declared.opened.Opened.{Opened}
use Rattle.s2_io.specs.declared.opened.Opened.TheVariants as kinds

-- the known bytes of a file opened by its name, or of a standard stream
abbrev pub known_of : {F S : Type 0} → (F → Option (List ℕ)) → (S → Option (List ℕ)) → Opened F S → Option (List ℕ)
known_of file standard (kinds.File f) = file f
known_of file standard (kinds.Standard s) = standard s

-- of a writer with a buffer, or without one
abbrev pub buffered_of : {T A : Type 0} → (T → Option (List ℕ)) → Either (BufWriter T A) T → Option (List ℕ)
buffered_of contents = either (writer_contents contents) contents
