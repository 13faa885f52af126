use Rattle.std.proofs.Common.{◌/◌, ◌-◌, ◌+◌, ◌<◌, ◌≤◌, ℕ, length, take, drop, ap, ◌∙◌, arith}
use Rattle.s2_bits.specs.Bits.{xor, bit_at}
use Rattle.s2_matrix.proofs.Joins.{div_below}
use Rattle.s2_matrix.proofs.Planing.{plane_added, twice_rotated, not_rotated}
use Rattle.s2_matrix.proofs.planes.add_address.Goals as goal

pub returns-clause-added : goal.returns-clause-added
returns-clause-added c =
    let bits = c.args.bits.now in
    let n = length bits in
    let s = c.args.address / c.args.q in
    let below : s < n = div_below c.args.address c.args.q n c.requires.some (omega arith) in
    let low : s ≤ n = omega (arith, below) in
    let rest = c.split_at_mut-rest.ensures in
    let plane = c.split_at_mut-plane.ensures in
    let old = c.split_at_mut-plane.result.0.now in
    let piece = c.part-piece.result.now in
    let added = λ (k : ℕ) (h : k < n). (
    let inside : k < length piece = omega (arith, h, c.part-piece.ensures.long) in
    c.add_rotated.ensures.added k inside
    ∙ ap (λ b. xor (bit_at old k) b) (ap (bit_at piece) (not_rotated (length piece) k inside) ∙ c.part-piece.ensures.are k h ∙ ap (λ l. bit_at l (n - s + k)) c.requires.twice ∙ twice_rotated bits s k low h)
    ) in
    λ j h. plane_added (bit_at bits) c.args.planes.now c.split_at_mut-rest.result.0.now old c.add_rotated.new.row c.split_at_mut-plane.result.1.now n c.args.q c.args.address j c.requires.some c.requires.address h c.requires.room rest.front (plane.front ∙ ap (take n) rest.back) (plane.back ∙ ap (drop n) rest.back) (c.add_rotated.ensures.long ∙ plane.front_len) added
