-- An audit of a recording and its report, as far as it has come (own).
use Rattle.std.specs.Prelude.{◌↔◌, ◌∷◌, ℕ, Bool, true, List, [], ◌++◌, Option, Some, None, ⊤}
use Rattle.s2_mode.specs.Symbols.{symbols_of}
use Rattle.s2_receive.specs.Receiving.{Decision}
use Rattle.s2_receive.specs.Halves.{Follower}
use Rattle.s2_replay.specs.Replay.{AreLines, IsReplay, Terms}
use Rattle.s2_replay.specs.Running.{RanIn}

-- By these decisions, each borne out, the receiver has come so far in a recording, with these packets; its lines are these lines of
-- the report. Further lines may follow
pub record AuditedSoFar (t : Terms) (whole left : Option (List ℕ)) (f : Follower) (known : Bool) (decisions : List Decision) (lines : List (List ℕ)) (packets : List ℕ) : Type 0 where
  pub own : List (List ℕ)
  pub ran : RanIn t whole left f decisions own packets
  pub told : (more : List Decision) (later rest : List (List ℕ)) → AreLines known more later rest ↔ AreLines true (decisions ++ more) (own ++ later) (lines ++ rest)

-- the same after the last frame: no decision follows, but a cut frame and the end
pub record AuditedFrames (t : Terms) (whole left : Option (List ℕ)) (f : Follower) (known : Bool) (decisions : List Decision) (lines : List (List ℕ)) (packets : List ℕ) : Type 0 where
  pub own : List (List ℕ)
  pub ran : RanIn t whole left f decisions own packets
  pub told : (last : List ℕ) (later : List (List ℕ)) (line : List ℕ) (rest : List (List ℕ)) → AreLines known [] (last ∷ later) (line ∷ rest) ↔ AreLines true decisions (own ++ last ∷ later) (lines ++ line ∷ rest)

-- report and packets are those of the receiver on the recording, if its bytes are known
abbrev pub ReplaysIn : Terms → (whole : Option (List ℕ)) → List Decision → (lines : List (List ℕ)) → (packets : List ℕ) → Type 0
ReplaysIn t None decisions lines packets = ⊤
ReplaysIn t (Some recording) decisions lines packets = IsReplay t (symbols_of recording) decisions lines packets
