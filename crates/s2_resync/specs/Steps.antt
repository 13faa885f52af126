-- How a reader of packets moves on to the next one (own).
use Rattle.std.specs.Prelude.{◌≡◌, ⊤, ℕ, ◌+◌, Bool, true, false, if◌then◌else◌, List, Option, None, Some, IfSome}
use Rattle.std.specs.Option.{option_map}
use Rattle.s2_resync.specs.declared.seek.Step.{Step}
use Rattle.s2_resync.specs.Packets.{Resynced, after_losses, after_packet, begins, resync}

-- the result of bytes from a step on
abbrev pub step_makes : Step → List ℕ → Resynced
step_makes s bytes = after_losses s.left_out s.places (resync s.in_step 0 bytes)

-- the same of the bytes that come, if they are known
abbrev pub step_outcome : Step → Option (List ℕ) → Option Resynced
step_outcome s coming = option_map (step_makes s) coming

-- the same, after the rest of a packet
abbrev pub packet_outcome : List ℕ → Step → Option (List ℕ) → Option Resynced
packet_outcome packet s coming = option_map (λ bytes. after_packet packet (step_makes s bytes)) coming

-- the outcome is the same as before, if it is known
abbrev pub Leads : Option Resynced → Option Resynced → Type 0
Leads None after = ⊤
Leads (Some before) None = ⊥
Leads (Some before) (Some after) = after ≡ before

-- a packet begins with the first of the bytes that come, if they are known
abbrev pub Begins : Bool → Option (List ℕ) → Type 0
Begins in_step coming = IfSome coming (λ bytes. begins in_step bytes ≡ true)

-- the step after bytes that are left out
abbrev pub after_gap : ℕ → Step → Step
after_gap count s =
    record s { in_step = false; left_out = s.left_out + count; places = s.places + (if s.in_step then 1 else 0) }
