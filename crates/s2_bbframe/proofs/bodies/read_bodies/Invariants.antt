use Rattle.std.proofs.Common.{◌≡◌, ◌+◌, ◌*◌, ◌≤◌, length, take, drop}
use Rattle.s2_bbframe.specs.Joining.{run_of}
use Rattle.s2_bbframe.proofs.BodySteps.{HasRead}
use Rattle.s2_bbframe.proofs.bodies.read_bodies.Given as goal

-- the packets so far, and what the rest gives, are what all bytes give
abbrev pub invariant-loop-byte : goal.invariant-loop-byte
invariant-loop-byte l =
    HasRead (run_of (take l.fn.start l.fn.body) l.bytes) (take l.held l.body) (drop l.byte-index l.bytes) l.good l.bad l.packets
    × (l.held ≤ 187)
    × (188 * (l.good + l.bad) + l.held ≤ l.fn.start + l.byte-index) × (length l.packets ≡ length l.fn.packets)
