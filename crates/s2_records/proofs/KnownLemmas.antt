-- A join of a file whose bytes are known.
use Rattle.std.proofs.Common.{◌≡◌, ◌≢◌, ℕ, Bool, List, ◌++◌, Option, Some, None, Result, Ok, Err, IfSome, refl, sym, ap, subst, ◌∙◌, append-nil, inl, inr}
use Rattle.std.specs.Io.KnownBytes.{Appends, Consumes, IsAtEnd}
use Rattle.s2_mode.specs.Mode.{Mode}
use Rattle.s2_mode.specs.Streams.{Streams}
use Rattle.s2_io.specs.declared.exit.Exit.{Exit}
use Rattle.s2_io.specs.declared.exit.Exit.TheVariants as exits
use Rattle.s2_io.specs.declared.fault.Fault.{Fault}
use Rattle.s2_io.specs.Exits.{exit_of}
use Rattle.s2_io.specs.Screens.{Screen}
use Rattle.s2_records.specs.Frames.{packets_in}
use Rattle.s2_records.specs.Counting.{summary_of, report_of, exit_by}
use Rattle.s2_records.specs.Joining.{JoinsKnown, Reports, Runs, beside}

-- a reader that is at its end gave all its bytes
all_bytes : (old new : Option (List ℕ)) (bytes xs : List ℕ) → old ≡ Some xs → Consumes old new bytes → IsAtEnd new → bytes ≡ xs
all_bytes None new bytes xs known read end = cc
all_bytes (Some x) None bytes xs known read end = absurd read
all_bytes (Some x) (Some y) bytes xs known read end = let same : x ≡ xs = cc in sym (read ∙ ap (λ l. bytes ++ l) end ∙ append-nil bytes) ∙ same

if_known : (o : Option (List ℕ)) (P : List ℕ → Type 0) → ((xs : List ℕ) → o ≡ Some xs → P xs) → IfSome o P
if_known None P h = tt
if_known (Some xs) P h = h xs refl

module _ (m : Mode) (old new : Streams) (a b screen_old screen_new : Screen) (before : a.output ≡ screen_old.output) (after : b.output ≡ screen_new.output) where
  reported : (exit : Exit) → Reports m (beside old a) (beside new b) (Ok exit) → JoinsKnown m old new screen_old screen_new exit
  reported exit (summary, all, (same, printed)) =
      if_known old.taken _ (λ xs known.
      let bytes = all_bytes old.taken new.taken all.bytes xs known all.read all.all in
      let is : summary ≡ summary_of m xs = all.summary_is ∙ ap (summary_of m) bytes in
      let shown = subst (λ o. Appends o b.output (report_of m summary)) before printed in
      let ended = subst (λ o. Appends screen_old.output o (report_of m summary)) after shown in (
        same ∙ ap exit_by is,
        subst (λ b. Appends old.given new.given (packets_in m b)) bytes all.written,
        subst (λ s. Appends screen_old.output screen_new.output (report_of m s)) is ended,
      ))

  pub known : (begun : Bool) (ended : Result Exit Fault) (exit : Exit) → exit ≡ exit_of ended → exit ≢ exits.Fault → Runs m begun (beside old a) (beside new b) ended
      → JoinsKnown m old new screen_old screen_new exit
  known begun (Ok e) exit is fine (inl (begins, inl (inl h))) = subst (JoinsKnown m old new screen_old screen_new) (sym is) (reported e h)
  known begun (Ok e) exit is fine (inl (begins, inl (inr (stops, out)))) = absurd stops
  known begun (Ok e) exit is fine (inl (begins, inr (failed, same))) = cc
  known begun (Ok e) exit is fine (inr (unbegun, failed, same)) = cc
  known begun (Err f) exit is fine h = absurd (fine is)
