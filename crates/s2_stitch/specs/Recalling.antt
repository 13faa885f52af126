-- A decider that recalls the decision of a record (own).
use Rattle.std.specs.Prelude.{ℕ, Bool, true, false, ◌&&◌, nat_le, if◌then◌else◌, List, Option, Some, None}
use Rattle.std.specs.Ordering.{int_eq}
use Rattle.std.specs.Cmp.Lexicographic.{pointwise}
use Rattle.s2_mode.specs.declared.symbols.Symbol.{Symbol}
use Rattle.s2_receive.specs.Receiving.{Decision}
use Rattle.s2_stitch.specs.Frames.{RecordedFrame}

-- whether two symbols are equal
abbrev pub is_same : Symbol → Symbol → Bool
is_same a b = int_eq a.i b.i && int_eq a.q b.q

-- whether these are the same symbols
abbrev pub are_same : List Symbol → List Symbol → Bool
are_same xs ys = pointwise is_same xs ys

-- a decider, the recorded frame that it holds, and whether that gave the last decision
pub record Recalling (D : Type 0) : Type 0 where
  pub decider : D
  pub held : Option RecordedFrame
  pub is_recalled : Bool

-- whether the frame that is held has these symbols
abbrev pub holds : Option RecordedFrame → List Symbol → Bool
holds None symbols = false
holds (Some f) symbols = are_same f.symbols symbols

-- the decision of the frame that is held, on its symbols; on others that of the rule
abbrev pub recalls : (decide : List Symbol → Decision) → Option RecordedFrame → List Symbol → Decision
recalls decide None symbols = decide symbols
recalls decide (Some f) symbols = if are_same f.symbols symbols then f.decision else decide symbols

-- the frame that gave the last decision, if a record did
abbrev pub recalled_by : (is_recalled : Bool) → Option RecordedFrame → Option RecordedFrame
recalled_by true held = held
recalled_by false held = None

-- the same of a recalling decider
abbrev pub recalled : {D : Type 0} → Recalling D → Option RecordedFrame
recalled r = recalled_by r.is_recalled r.held

-- the last decision, that of this frame or the decider's
abbrev pub last_by : {D : Type 0} → (D → Decision) → D → Option RecordedFrame → Decision
last_by last decider None = last decider
last_by last decider (Some f) = f.decision

-- and the data field that is lent with it
abbrev pub field_by : {D : Type 0} → (D → List ℕ) → D → Option RecordedFrame → List ℕ
field_by field decider None = field decider
field_by field decider (Some f) = f.field

-- whether the frame that is held begins at this position or after it
abbrev pub is_ahead : ℕ → Option RecordedFrame → Bool
is_ahead at None = false
is_ahead at (Some f) = nat_le at f.at
