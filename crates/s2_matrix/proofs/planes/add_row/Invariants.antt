use Rattle.std.proofs.Common.{◌≡◌, ℕ, ◌+◌, ◌*◌, ◌%◌, ◌<◌, ◌==◌, ◌&&◌, take, length}
use Rattle.std.specs.List.{list_any}
use Rattle.s2_bits.specs.Bits.{xor, bit_at}
use Rattle.s2_matrix.specs.Sums.{sum_of}
use Rattle.s2_matrix.specs.Planes.{plane_place}
use Rattle.s2_matrix.proofs.planes.add_row.Given as goal

abbrev pub invariant-loop-address : goal.invariant-loop-address
invariant-loop-address l = record {
  long : length l.planes ≡ length l.initial.planes;
  added : (j : ℕ) → j < length l.bits * l.q → bit_at l.planes (plane_place (length l.bits) l.q j) ≡ xor (bit_at l.initial.planes (plane_place (length l.bits) l.q j)) (sum_of (λ m. list_any (λ x. (x + m * l.q) % (length l.bits * l.q) == j) (take l.address-index l.row) && bit_at l.bits m) (length l.bits));
}
