use Rattle.std.proofs.Common.{◌+◌, ◌*◌, ◌%◌, ◌==◌, ◌&&◌, List, ℕ, length, get_or, take, refl, ap, sym, ◌∙◌, arith}
use Rattle.std.specs.List.{list_any}
use Rattle.std.proofs.lemmas.List.{take_all}
use Rattle.s2_bits.specs.Bits.{xor, bit_at}
use Rattle.s2_matrix.specs.Sums.{sum_of}
use Rattle.s2_matrix.specs.Planes.{plane_place}
use Rattle.s2_bits.proofs.Sums.{xor_none, xor_assoc}
use Rattle.s2_matrix.proofs.Adding.{row_sum_none, row_sum_more}
use Rattle.s2_matrix.proofs.planes.add_row.Goals as goal

pub loop-address-init : goal.loop-address-init
loop-address-init c =
    let bits = c.args.bits.now in
    record {
      long = refl;
      added = λ j h. (
          let old = bit_at c.args.planes.now (plane_place (length bits) c.args.q j) in
          sym (ap (xor old) (row_sum_none (bit_at bits) (length bits)) ∙ xor_none old)
          );
    }

pub loop-address-preserved : goal.loop-address-preserved
loop-address-preserved c =
    let bits = c.args.bits.now in
    let n = length bits in
    let q = c.args.q in
    let row = c.args.row.now in
    let i = c.loop-address.address-index in
    record {
      long = c.add_address.ensures.long ∙ c.loop-address.invariant.long;
      added = λ j h. (
          let old = bit_at c.args.planes.now (plane_place n q j) in
          let any = sum_of (λ m. list_any (λ x. (x + m * q) % (n * q) == j) (take i row) && bit_at bits m) n in
          let hit = sum_of (λ m. ((get_or row i 0 + m * q) % (n * q) == j) && bit_at bits m) n in
          c.add_address.ensures.added j h ∙ ap (λ b. xor b hit) (c.loop-address.invariant.added j h) ∙ xor_assoc old any hit ∙ ap (xor old) (sym (row_sum_more row (bit_at bits) i q (n * q) n j c.loop-address-test.true c.requires.addresses))
          );
    }

pub returns-clause-added : goal.returns-clause-added
returns-clause-added c =
    let bits = c.args.bits.now in
    let n = length bits in
    let q = c.args.q in
    let row = c.args.row.now in
    λ j h. c.loop-address.invariant.added j h ∙ ap (λ (l : List ℕ). xor (bit_at c.args.planes.now (plane_place n q j)) (sum_of (λ m. list_any (λ x. (x + m * q) % (n * q) == j) l && bit_at bits m) n)) (take_all c.loop-address.address-index row (omega (arith, c.loop-address-test.false)))
