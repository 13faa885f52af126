-- A command that ran.
use Rattle.std.proofs.Common.{◌≡◌, ℕ, List, Option, Err, subst}
use Rattle.s2_io.specs.declared.exit.Exit.{Exit}
use Rattle.s2_io.specs.declared.fault.Fault.{Fault}
use Rattle.s2_io.specs.declared.fault.Fault.TheVariants as faults
use Rattle.s2_io.specs.Exits.{CommandAnswers}
use Rattle.s2_scan.specs.Scanning.{IsRecording, MayFail, SaysScan, SaysSeen}
use Rattle.s2_scan.specs.declared.passes.Pass.{Pass}

-- a fault that may come is the input's, or from outside
pub may_answer : (name : List ℕ) (known : Option (List ℕ)) (f : Fault) → MayFail known f → CommandAnswers (SaysScan name) (IsRecording known) (Err f)
may_answer name known faults.Read may = tt
may_answer name known faults.Write may = tt
may_answer name known faults.NoMemory may = tt
may_answer name known faults.TooLong may = may
may_answer name known (faults.Open path) may = absurd may
may_answer name known (faults.UsedTwice path) may = absurd may
may_answer name known (faults.Rows text) may = absurd may
may_answer name known (faults.Refused text) may = absurd may

-- the same passes and first bytes
pub says_as : (name : List ℕ) (passes passes' : List Pass) (front front' : List ℕ) (exit : Exit) (text : List ℕ) → passes ≡ passes' → front ≡ front' → SaysSeen name passes front exit text
    → SaysSeen name passes' front' exit text
says_as name passes passes' front front' exit text p q says =
    subst (λ (ps : List Pass). SaysSeen name ps front' exit text) p (subst (λ (xs : List ℕ). SaysSeen name passes xs exit text) q says)
