use Rattle.std.proofs.Common.{◌≡◌, ◌<◌, ◌++◌, ℕ, List, length}
use Rattle.s2_send.specs.Sender.{ComesOn, Grows, SameStream}
use Rattle.s2_send.proofs.intake.Intake.put.Given as goal

-- the front of the bytes came, and the rest is left
abbrev pub invariant-put : goal.invariant-put
invariant-put l =
    (front : List ℕ) × (l.fn.bytes ≡ front ++ l.rest) × ComesOn front l.fn.self l.self × Grows l.fn.self l.self (length front) × SameStream l.fn.self l.self
    × (0 < length front → length l.self.held < 188)

abbrev pub decreases-put : goal.decreases-put
decreases-put l = length l.rest
