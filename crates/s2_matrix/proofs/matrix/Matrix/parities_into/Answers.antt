use Rattle.std.proofs.Common.{◌≡◌, ℕ, suc, ◌+◌, ◌*◌, ap, ap₂, ◌∙◌, arith}
use Rattle.s2_mode.specs.Shape.{Shape, check_count}
use Rattle.s2_mode.specs.Limits.{max_bits}
use Rattle.s2_bits.specs.Bits.{bit_at}
use Rattle.s2_matrix.specs.Code.{code_of}
use Rattle.s2_matrix.specs.Sums.{sum_of, information_sum}
use Rattle.s2_matrix.specs.Planes.{plane_place}
use Rattle.s2_matrix.proofs.Sums.{sum_of-same}
use Rattle.s2_matrix.proofs.Planing.{empty_planes}
use Rattle.s2_matrix.proofs.matrix.Matrix.parities_into.Goals as goal

pub add_groups-requires-clause-empty : goal.add_groups-requires-clause-empty
add_groups-requires-clause-empty c = empty_planes max_bits

pub returns-clause-are : goal.returns-clause-are
returns-clause-are c =
    let r = c.args.self.now in
    let info = c.args.info.now in
    let e = c.shape-shape.ensures.is in
    let group = c.group.ensures.is ∙ ap (λ (s : Shape). s.group) e in
    let q = c.q.ensures.is ∙ ap (λ (s : Shape). s.q) e in
    let planes = c.add_groups.new.planes in
    let sums = λ (i : ℕ). bit_at planes (plane_place c.group.result c.q.result i) in
    let count : c.group.result * c.q.result ≡ check_count r.shape = ap₂ ◌*◌ group q in
    λ j h. (
    let one : j + 1 ≡ suc j = omega arith in
    c.accumulate.ensures.sums j (omega (arith, count)) ∙ ap (sum_of sums) one
    ∙ sum_of-same sums (information_sum (code_of r) info) (suc j) (λ i less. ap₂ (λ (a b : ℕ). bit_at planes (plane_place a b i)) group q ∙ c.add_groups.ensures.are i (omega arith))
    )
