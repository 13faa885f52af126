-- How the receiver's own report goes on with the next thing found (own).
use Rattle.std.specs.Prelude.{◌≡◌, ℕ, Bool, true, false, List, [], ◌∷◌, ◌++◌, Option, Some, None, is_some}
use Rattle.s2_mode.specs.Symbols.{symbols_of}
use Rattle.s2_mode.specs.declared.symbols.Symbol.{Symbol}
use Rattle.s2_check.specs.Verdicts.{is_certified}
use Rattle.s2_check.specs.declared.verdict.Verdict.TheVariants.{Broken}
use Rattle.s2_report.specs.ReportLines.{step_line}
use Rattle.s2_report.specs.declared.report.Step.{Step}
use Rattle.s2_receive.specs.Halves.{Follower, Settles, deciding}
use Rattle.s2_receive.specs.Receiving.{Decision, line_of, packets_of}
use Rattle.s2_receive.specs.Synchronization.{met_of}
use Rattle.s2_receive.specs.declared.window.Next.{Next}
use Rattle.s2_receive.specs.declared.window.Next.TheVariants as next
use Rattle.s2_message.specs.Decisions.{claimed_decision, soft_frame}
use Rattle.s2_replay.specs.Auditing.{AuditedFrames, AuditedSoFar}
use Rattle.s2_replay.specs.Certificates.{Shows}
use Rattle.s2_replay.specs.Frames.{HasRounds, IsShownBy}
use Rattle.s2_replay.specs.Replay.{IsBorneOut, IsEndLine, IsFrameLine, IsReplay, Terms, is_known, rules_for}
use Rattle.s2_replay.specs.Running.{IsBy}
use Rattle.s2_replay.specs.declared.certificates.Refusal.{Refusal}
use Rattle.s2_replay.specs.declared.certificates.Shown.TheVariants as shown

-- the receiver's line of this thing, by this decision on it
abbrev pub line_by : Terms → Follower → Next → Decision → List ℕ
line_by t f found d = line_of (deciding (rules_for t) d) f.state.standing (met_of found f.frame)

-- and its packets
abbrev pub packets_by : Terms → Follower → Next → Decision → List ℕ
packets_by t f found d = packets_of (deciding (rules_for t) d) f.state.standing (met_of found f.frame)

-- The report goes on with the line of this thing: these decisions, lines and packets are left. No decision is on a cut frame or on
-- the end, and the end comes after a cut frame
abbrev pub ExpectsNext : Terms → Follower → Next → (known : Bool) → List Decision → (lines : List (List ℕ)) → (packets : List ℕ) → Type 0
ExpectsNext t f (next.Frame at skipped) known (d ∷ more) (line ∷ lines) packets =
    let found = next.Frame at skipped in IsBorneOut t f.frame d × IsFrameLine (is_known d) d (line_by t f found d) line × ((rest : List ℕ) × (packets ≡ packets_by t f found d ++ rest))
ExpectsNext t f (next.Cut at skipped count) known [] (line ∷ last ∷ []) packets = (line_by t f (next.Cut at skipped count) (claimed_decision Broken true) ≡ line ++ 10 ∷ []) × (packets ≡ [])
ExpectsNext t f (next.End at skipped) known [] (line ∷ []) packets = IsEndLine known (line_by t f (next.End at skipped) (claimed_decision Broken true)) line × (packets ≡ [])
ExpectsNext t f found known decisions lines packets = ⊥

-- If report and packets are the receiver's own, and begin with the lines and packets so far, they go on with this thing
abbrev pub ExpectsLaw : Type 0
ExpectsLaw =
    (t : Terms) (recording left : List ℕ) (f : Follower) (known : Bool) (decisions : List Decision) (lines : List (List ℕ)) (packets : List ℕ) (found : Next)
    → IsBy t f → f.found ≡ Some found → AuditedSoFar t (Some recording) (Some left) f known decisions lines packets
    → (more : List Decision) (later : List (List ℕ)) (given : List ℕ) → IsReplay t (symbols_of recording) (decisions ++ more) (lines ++ later) given
    → (rest : List ℕ) × (given ≡ packets ++ rest) × ExpectsNext t f found known more later rest

-- the same after the last frame
abbrev pub ExpectsLastLaw : Type 0
ExpectsLastLaw =
    (t : Terms) (recording left : List ℕ) (f : Follower) (known : Bool) (decisions : List Decision) (lines : List (List ℕ)) (packets : List ℕ) (found : Next)
    → IsBy t f → f.found ≡ Some found → AuditedFrames t (Some recording) (Some left) f known decisions lines packets
    → (line : List ℕ) (later : List (List ℕ)) (given : List ℕ) → IsReplay t (symbols_of recording) decisions (lines ++ line ∷ later) given
    → (rest : List ℕ) × (given ≡ packets ++ rest) × ExpectsNext t f found known [] (line ∷ later) rest

-- a thing that is settled by a decision has that line and those packets
abbrev pub SettledLaw : Type 0
SettledLaw =
    (t : Terms) (old new : Follower) (found : Next) (d : Decision) (step : Step) → Settles old new found d step
    → (step_line step new.state.standing.totals ≡ line_by t old found d) × (new.packets ≡ packets_by t old found d)

-- ---- the decision on a frame

-- the certificate of a decision is there exactly if its verdict claims one
abbrev pub CertifiedLaw : Type 0
CertifiedLaw = (t : Terms) (symbols : List Symbol) (d : Decision) (block : Option (List ℕ)) → IsBorneOut t symbols d → IsShownBy t.rows d block → is_certified d.verdict ≡ is_some block

-- The evidence determines the decision: the certificate; or without one the bits, if they are known. The rounds are those of a line
abbrev pub SameDecisionLaw : Type 0
SameDecisionLaw =
    (t : Terms) (symbols : List Symbol) (d e : Decision) (block : Option (List ℕ)) (line : List ℕ) → IsBorneOut t symbols d → IsBorneOut t symbols e → HasRounds d line → HasRounds e line
    → IsShownBy t.rows d block → IsShownBy t.rows e block → (block ≡ None → (is_known d ≡ true) × (is_known e ≡ true) × (d.bits ≡ e.bits)) → d ≡ e

-- a certificate has one word
abbrev pub SameWordLaw : Type 0
SameWordLaw =
    (t : Terms) (symbols : List Symbol) (d e : Decision) (block : List ℕ) → IsBorneOut t symbols d → IsBorneOut t symbols e → IsShownBy t.rows d (Some block) → IsShownBy t.rows e (Some block) → d.bits ≡ e.bits

-- a certificate that is refused bears out no decision
abbrev pub RefusedLaw : Type 0
RefusedLaw =
    (t : Terms) (symbols : List Symbol) (d : Decision) (block : List ℕ) (refusal : Refusal) → IsBorneOut t symbols d → IsShownBy t.rows d (Some block)
    → Shows t.rows (soft_frame t.mode t.number t.options symbols) [] block (shown.Refused refusal) → ⊥
