use Rattle.std.proofs.Common.{◌≡◌, ◌+◌, ◌*◌, ◌/◌, ◌%◌, min, get_or, ap, ◌∙◌, arith}
use Rattle.std.proofs.Math.ListN.{length-set}
use Rattle.s2_mode.specs.Shape.{Shape}
use Rattle.s2_matrix.specs.Code.{code_of}
use Rattle.s2_check.specs.Moves.{no_move}
use Rattle.s2_settle.specs.Settled.{move_to}
use Rattle.s2_settle.specs.Placing.{shown, place_of_check, move_of}
use Rattle.s2_settle.proofs.Shown.{place_low}
use Rattle.s2_settle.proofs.Layers.{by_places, set_more}
use Rattle.s2_settle.proofs.MadeMoves.{moves_are}
use Rattle.s2_settle.proofs.moves.put_moves.Goals as goal

pub bounds-targets-r : goal.bounds-targets-r
bounds-targets-r c =
    let s = c.args.matrix.now.shape in
    let j = c.loop-check.check in
    let q = c.q-q.ensures.is ∙ ap (λ (x : Shape). x.q) c.shape-shape.ensures.is in
    let n = c.group-n.ensures.is ∙ ap (λ (x : Shape). x.group) c.shape-shape.ensures.is in
    let at : j % c.q-q.result * c.group-n.result + j / c.q-q.result ≡ place_of_check s j = λ i. j % q i * n i + j / q i in
    let low = place_low s c.shape-shape.ensures.valid j (omega (arith, c.check_count-check-end.ensures.is)) in
    omega (arith, at, low, c.requires.targets)

pub bounds-amounts-r : goal.bounds-amounts-r
bounds-amounts-r c =
    let s = c.args.matrix.now.shape in
    let j = c.loop-check.check in
    let q = c.q-q.ensures.is ∙ ap (λ (x : Shape). x.q) c.shape-shape.ensures.is in
    let n = c.group-n.ensures.is ∙ ap (λ (x : Shape). x.group) c.shape-shape.ensures.is in
    let at : j % c.q-q.result * c.group-n.result + j / c.q-q.result ≡ place_of_check s j = λ i. j % q i * n i + j / q i in
    let low = place_low s c.shape-shape.ensures.valid j (omega (arith, c.check_count-check-end.ensures.is)) in
    omega (arith, at, low, c.requires.amounts)

pub loop-check-preserved : goal.loop-check-preserved
loop-check-preserved c =
    let rows = c.args.matrix.now in
    let s = rows.shape in
    let j = c.loop-check.check in
    let inv = c.loop-check.invariant in
    let targets = c.args.targets.now in
    let amounts = c.args.amounts.now in
    let q = c.q-q.ensures.is ∙ ap (λ (x : Shape). x.q) c.shape-shape.ensures.is in
    let n = c.group-n.ensures.is ∙ ap (λ (x : Shape). x.group) c.shape-shape.ensures.is in
    let bit : c.target_of-bit.result ≡ shown rows (j % s.q) (j / s.q) (get_or targets (place_of_check s j) 0) = c.target_of-bit.ensures.is ∙ (λ i. shown rows (j % q i) (j / q i) c.from-e.result) ∙ ap (shown rows (j % s.q) (j / s.q)) (c.from-e.ensures ∙ (λ i. get_or targets (j % q i * n i + j / q i) 0)) in
    let amount : c.min-amount.result ≡ min (get_or amounts (place_of_check s j) 0) 1048576 = c.min-amount.ensures ∙ ap (λ x. min x 1048576) (c.from.ensures ∙ (λ i. get_or amounts (j % q i * n i + j / q i) 0)) in
    let is : c.move_to.result ≡ move_of rows targets amounts j = c.move_to.ensures ∙ (λ i. move_to (c.members_at.ensures.are i) (bit i) (amount i)) in
    record {
      long = length-set c.loop-check.moves j c.move_to.result ∙ inv.long;
      are = set_more no_move (move_of rows targets amounts) j c.loop-check.moves c.move_to.result (omega (arith, inv.long, c.requires.moves, c.check_count-check-end.ensures.is)) inv.are is;
    }

pub returns-clause-are : goal.returns-clause-are
returns-clause-are c =
    by_places no_move _ (code_of c.args.matrix.now).checks c.loop-check.moves (c.loop-check.invariant.long ∙ c.requires.moves) (λ j low. c.loop-check.invariant.are j (omega (arith, c.check_count-check-end.ensures.is)))

pub returns-clause-moves : goal.returns-clause-moves
returns-clause-moves c = moves_are c.args.matrix.now c.args.targets.now c.args.amounts.now c.loop-check.moves (returns-clause-are c)
