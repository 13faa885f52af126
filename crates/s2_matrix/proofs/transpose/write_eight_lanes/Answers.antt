use Rattle.std.proofs.Common.{◌≡◌, ℕ, ◌+◌, ◌-◌, ◌*◌, ◌<◌, ◌≤◌, bit_xor, inl, inr, refl, ap, subst, ◌∙◌, arith}
use Rattle.std.proofs.Math.Nat.{mul-le-mul_right}
use Rattle.std.proofs.lemmas.Bool.{cases_lt}
use lib.Lanes.{zip2}
use Rattle.s2_bits.specs.Bits.{xor, bit_at}
use Rattle.s2_matrix.specs.Sums.{sum_of}
use Rattle.s2_matrix.specs.Transpose.{carry_at, accumulated}
use Rattle.s2_matrix.proofs.Blocks.{rows-same, rows-sum, carry_after, transposed_place}
use Rattle.s2_matrix.proofs.transpose.write_eight_lanes.Goals as goal

pub carries-carries-requires : goal.carries-carries-requires
carries-carries-requires c =
    let group = c.args.group in
    let p = c.args.q - 1 in
    let next : c.args.q ≡ p + 1 = omega (arith, c.requires.planes) in
    let whole : group * c.args.q ≡ group * (p + 1) = ap (λ k. group * k) next in
    omega (arith, whole, c.requires.room, c.requires.lanes)

pub transposed-lanes-requires : goal.transposed-lanes-requires
transposed-lanes-requires c =
    let plane = c.min-plane.result in
    let far : (plane + 8) * c.args.group ≤ c.args.q * c.args.group = mul-le-mul_right c.args.group (omega (arith, c.min-plane.ensures, c.requires.planes)) in
    omega (arith, far, c.requires.room, c.requires.lanes)

pub put-requires : goal.put-requires
put-requires c =
    let plane = c.min-plane.result in
    let inside : plane + 8 ≤ c.args.q = omega (arith, c.min-plane.ensures, c.requires.planes) in
    let far : (c.args.lane + 8) * c.args.q ≤ c.args.group * c.args.q = mul-le-mul_right c.args.q c.requires.lanes in
    omega (arith, far, inside, c.requires.size, c.loop-block.invariant.long)

pub loop-block-init : goal.loop-block-init
loop-block-init c = record {
  long = refl;
  done = λ m r low h. absurd (omega (arith, h));
  kept = λ k right. right;
}

pub loop-block-preserved : goal.loop-block-preserved
loop-block-preserved c =
    let group = c.args.group in
    let q = c.args.q in
    let lane = c.args.lane in
    let planes = c.args.planes.now in
    let plane = c.min-plane.result in
    let f = accumulated group q planes in
    let new = c.put.new.parities in
    let inv = c.loop-block.invariant in
    let inside : plane + 8 ≤ q = omega (arith, c.min-plane.ensures, c.requires.planes) in
    let before = λ (l r : ℕ). carry_at group q planes (lane + l) in
    let own = λ (l r : ℕ). bit_at planes (plane * group + lane + r * group + l) in
    let adds = c.carries-carries.ensures
    ∙ rows-same (λ l r. xor c.args.first (sum_of (λ i. bit_at planes ((q - 1) * group + lane + i)) l)) before (λ l r low short. carry_after group q planes lane l c.args.first c.requires.first) in
    let block = (λ t. zip2 bit_xor (adds t) (c.transposed-lanes.ensures t)) ∙ rows-sum before own
    ∙ rows-same (λ l r. xor (before l r) (own l r)) (λ l r. f (lane * q + plane + l * q + r)) (λ l r low short. transposed_place group q planes lane plane l r (omega (arith, inside, short))) in
    let e = c.put.ensures f block in
    record {
      long = e.long ∙ inv.long;
      done = λ m r low early inside_q. elim (cases_lt r plane) [
        | inl before ↦ e.kept (lane * q + m * q + r) (inv.done m r low (omega (arith, before, c.min-plane.ensures)) inside_q)
        | inr after ↦ (
            let s = r - plane in
            let index : lane * q + plane + m * q + s ≡ lane * q + m * q + r = omega (arith, after) in
            let short : s < 8 = omega (arith, early, inside_q, after, c.min-plane.ensures, c.requires.planes) in
            subst (λ k. bit_at new k ≡ f k) index (e.here m s low short)
            )
      ];
      kept = λ k right. e.kept k (inv.kept k right);
    }

pub returns : goal.returns
returns c =
    let inv = c.loop-block.invariant in
    record {
      long = inv.long;
      here = λ l r low short. inv.done l r low (omega (arith, short, c.loop-block-test.false, c.div_ceil-block-end.ensures)) short;
      kept = inv.kept;
    }
