use Rattle.std.proofs.Common.{arith, sym, ap, subst, ◌∙◌, ◌≡◌, ◌≢◌, ◌+◌, ◌*◌, ◌%◌, ◌-◌, ◌<◌, ◌≤◌, ℕ, List, length, get_or, set}
use Rattle.std.specs.Prelude.{Bool, false, not}
use Rattle.std.proofs.lemmas.Bool.{true≢false}
use Rattle.std.proofs.lemmas.List.{get_or_read}
use Rattle.std.proofs.Math.Nat.{mul-add-mod_self_left, mod-eq_of_lt, mul-le-mul_left}
use Rattle.s2_bch.proofs.Places.{AreDone, lanes_start, lane_kept, lane_turned, from_end}
use Rattle.s2_bch.proofs.chien.flip_lanes.Goals as goal
use Rattle.s2_bch.proofs.chien.flip_lanes.Goals.{then-place-word+then-is_zero, else-place-word, else-place-word-via-then-place-word+else-is_zero, else-place-word-via-else-place-word}

pub loop-lane-init : goal.loop-lane-init
loop-lane-init g c = lanes_start g.F.Field.field.zero c.args.values.now c.args.stride c.args.step c.args.word.now

pub overflow_mul-place : goal.overflow_mul-place
overflow_mul-place g c =
    let most : c.args.stride * c.loop-lane.lane ≤ c.args.stride * 16 = mul-le-mul_left c.args.stride (omega arith) in
    omega (arith, most)

pub loop-lane-preserved : goal.loop-lane-preserved
loop-lane-preserved g c =
    let nil = g.F.Field.field.zero in
    let values = c.args.values.now in
    let old = c.args.word.now in
    let now = c.loop-lane.word in
    let D = c.loop-lane.invariant in
    let size : length now ≡ length old = D.size in
    let lane : ℕ = c.loop-lane.lane in
    let place : ℕ = c.args.stride * lane + c.args.step in
    let there : lane < length values = omega (arith, c.requires.lanes) in
    let done : ℕ → List Bool → Type 0 = AreDone nil values c.args.stride c.args.step old (lane + 1) in
    elim c.if-place-word.branch [
      | then-place-word+then-is_zero w ↦
          let read = get_or_read values lane w.index-values-lane.result there w.index-values-lane.is nil in
          let zero : get_or values lane nil ≡ nil = sym read ∙ w.is_zero.ensures.0 w.if-is_zero.true in
          let within : place < length old = omega (arith, size, w.if-place-word.true) in
          let word = w.word-is ∙ ap (λ n. set now (n - 1 - place) (not (get_or now (n - 1 - place) false))) size in
          subst (λ n. done n c.if-place-word.word) (sym w.count-is)
          (subst (done (c.loop-lane.count + 1)) (sym word)
          (lane_turned nil values c.args.stride c.args.step old lane c.loop-lane.count now D c.requires.step (omega arith) within zero))
      | else-place-word w ↦
          let kept : (place < length old → get_or values lane nil ≢ nil) → done c.if-place-word.count c.if-place-word.word =
          λ other. subst (λ n. done n c.if-place-word.word) (sym w.count-is)
          (subst (done c.loop-lane.count) (sym w.word-is)
          (lane_kept nil values c.args.stride c.args.step old lane c.loop-lane.count now D c.requires.step other)) in
          elim w.else-place-word.branch [
            | else-place-word-via-then-place-word+else-is_zero u ↦
                let read = get_or_read values lane u.index-values-lane.result there u.index-values-lane.is nil in
                kept (λ h z. absurd (true≢false (sym (u.is_zero.ensures.1 (read ∙ z)) ∙ u.if-is_zero.false)))
            | else-place-word-via-else-place-word u ↦ kept (λ h z. absurd (omega (arith, size, h, u.if-place-word.false)))
          ]
    ]

pub returns-clause-hit : goal.returns-clause-hit
returns-clause-hit g c l hl h z =
    let v = c.loop-lane.invariant in
    from_end c.loop-lane.word (length c.args.word.now) (c.args.stride * l + c.args.step) v.size ∙ v.hit l (omega arith) h z

pub returns-clause-miss : goal.returns-clause-miss
returns-clause-miss g c l hl h n =
    let v = c.loop-lane.invariant in
    from_end c.loop-lane.word (length c.args.word.now) (c.args.stride * l + c.args.step) v.size ∙ v.miss l (omega arith) h n

pub returns-clause-others : goal.returns-clause-others
returns-clause-others g c e he other =
    let v = c.loop-lane.invariant in
    from_end c.loop-lane.word (length c.args.word.now) e v.size
    ∙ v.left e he (λ k hk same. other (ap (λ x. x % c.args.stride) same ∙ mul-add-mod_self_left c.args.stride k c.args.step ∙ mod-eq_of_lt c.requires.step))

pub returns-clause-count : goal.returns-clause-count
returns-clause-count g c o eo same =
    c.loop-lane.invariant.counted o eo
    (λ k hk h. same k hk h ∙ from_end o (length c.args.word.now) (c.args.stride * k + c.args.step) eo)
