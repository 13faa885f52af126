use Rattle.std.proofs.Common.{◌≡◌, ℕ, ◌*◌, ◌<◌, ◌&&◌, length}
use Rattle.s2_bits.specs.Bits.{bit_at}
use Rattle.s2_mode.specs.Shape.{check_count}
use Rattle.s2_matrix.specs.Code.{is_member}
use Rattle.s2_matrix.specs.Sums.{sum_of}
use Rattle.s2_matrix.specs.Planes.{plane_place}
use Rattle.s2_matrix.proofs.parity.add_groups.Given as goal

abbrev pub invariant-loop-g : goal.invariant-loop-g
invariant-loop-g l = record {
  long : length l.planes ≡ length l.initial.planes;
  summed : (j : ℕ) → j < check_count l.matrix.shape → bit_at l.planes (plane_place l.matrix.shape.group l.matrix.shape.q j) ≡ sum_of (λ b. is_member l.matrix j b && bit_at l.info b) (l.matrix.shape.group * l.g);
}
