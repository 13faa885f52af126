-- What a layer's checks exchange with their members, by rows of inputs, one check a lane (own).
use Rattle.std.specs.Prelude.{◌≡◌, ℕ, ◌+◌, ◌<◌, ◌≤◌, List, get_or}
use Rattle.s2_minsum.specs.Rows.{cell}
use Rattle.s2_minsum.specs.Exchange.{AreLeft}
use Rattle.s2_settle.specs.declared.course.Step.{Step}
use Rattle.s2_settle.specs.Rests.{change}
use Rattle.s2_settle.specs.Nodes.{least_at, amount_of}

-- a number of lanes from one on hold these words in each row; the others are unchanged
pub record AreWritten (n count at lanes : ℕ) (new : ℕ → ℕ → ℕ) (old now : List ℕ) : Type 0 where
  pub written : (e k : ℕ) → e < count → k < lanes → cell now n e (at + k) ≡ new e k
  pub left : AreLeft n count at (at + lanes) old now

-- The lanes from one to another hold the targets and amounts of their checks' inputs, and the changes of the members'
-- rests in place of the inputs. The others are unchanged
pub record AreExchanged (step : Step) (n count from to : ℕ) (inputs targets amounts inputs' targets' amounts' : List ℕ) : Type 0 where
  pub targets_are : (c : ℕ) → from ≤ c → c < to → get_or targets' c 0 ≡ least_at (λ e. cell inputs n e c) count
  pub amounts_are : (c : ℕ) → from ≤ c → c < to → get_or amounts' c 0 ≡ amount_of step (get_or targets c 0) (get_or amounts c 0) (λ e. cell inputs n e c) count
  pub changes : (e c : ℕ) → e < count → from ≤ c → c < to → cell inputs' n e c ≡ change (get_or targets c 0) (get_or amounts c 0) (get_or targets' c 0) (get_or amounts' c 0) e
  pub inputs_left : AreLeft n count from to inputs inputs'
  pub targets_left : (c : ℕ) → c < n → (from ≤ c → c < to → ⊥) → get_or targets' c 0 ≡ get_or targets c 0
  pub amounts_left : (c : ℕ) → c < n → (from ≤ c → c < to → ⊥) → get_or amounts' c 0 ≡ get_or amounts c 0
