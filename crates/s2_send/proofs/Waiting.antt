-- How much a packet adds, and when a field can be taken while packets still come.
use Rattle.std.proofs.Common.{◌≡◌, ℕ, ◌<◌, ◌≤◌, Bool, true, false, List, [], ◌∷◌, length, drop, sym, subst, arith, length-append, length-drop}
use Rattle.std.specs.Prelude.{MatchBool}
use Rattle.s2_bbframe.specs.DataStream.{IsPacket, Slicing, IsReady, gained}
use Rattle.s2_bbframe.specs.Crc.{crc8}

pub length_gained : (b : Bool) (p : List ℕ) → IsPacket p → length (gained b p) ≤ 189
length_gained true p h = omega (arith, length-append (drop 1 p) (crc8 (drop 1 p) ∷ []), length-drop 1 p, h.0)
length_gained false p h = omega (arith, length-append (drop 1 p) (crc8 (drop 1 p) ∷ []), length-drop 1 p, h.0)

pub ready_full : (s : Slicing) → s.closed ≡ false → IsReady s → s.size ≤ length s.waiting
ready_full s e h = subst (λ b. MatchBool b (0 < length s.waiting) (s.size ≤ length s.waiting)) e h

pub full_ready : (s : Slicing) → s.closed ≡ false → s.size ≤ length s.waiting → IsReady s
full_ready s e h = subst (λ b. MatchBool b (0 < length s.waiting) (s.size ≤ length s.waiting)) (sym e) h
