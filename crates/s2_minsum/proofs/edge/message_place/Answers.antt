use Rattle.std.proofs.Common.{◌≡◌, ◌+◌, ◌*◌, ◌/◌, ◌%◌, ◌≤◌, get_or, ap, ◌∙◌, arith}
use Rattle.s2_mode.specs.Shape.{Shape}
use Rattle.s2_rows.specs.Rows.{Rows}
use Rattle.s2_matrix.specs.Code.{code_of, members}
use Rattle.s2_minsum.specs.Layout.{back, place_at, first_row}
use Rattle.s2_minsum.proofs.Places
use Rattle.s2_minsum.proofs.MessagePlaces.{same_place, place_low, place_within}
use Rattle.std.proofs.Math.Nat.{mul-le-mul_right}
use Rattle.s2_minsum.proofs.FirstRows.{first_row_before}
use Rattle.s2_minsum.proofs.Starts.{rows_few}
use Rattle.s2_minsum.proofs.edge.message_place.Goals as goal

pub overflow_cast-back_to : goal.overflow_cast-back_to
overflow_cast-back_to c =
    let rows = c.args.matrix.now in
    let s = c.shape-shape.result in
    let shaped = c.requires.fit.shaped in
    let q = ap (λ (x : Shape). x.q) c.shape-shape.ensures.is in
    let low = Places.back_below rows.shape shaped (c.args.check / rows.shape.q) c.members.result c.members.ensures.below in
    let is : c.back_to.result ≡ back rows.shape (c.args.check / rows.shape.q) c.members.result = c.back_to.ensures ∙ (λ i. back (c.shape-shape.ensures.is i) (c.args.check / (c.q-2.ensures.is ∙ q) i) c.members.result) in
    record { fits = omega (arith, is, low, shaped.few) }

pub overflow_add-result : goal.overflow_add-result
overflow_add-result c =
    let rows = c.args.matrix.now in
    let i = get_or (members (code_of rows) c.args.check) c.args.at 0 in
    let shaped = c.requires.fit.shaped in
    let s_is = c.shape-shape.ensures.is in
    let q = ap (λ (x : Shape). x.q) s_is in
    let place = same_place rows c.args.check i c.shape-shape.result c.q.result c.q-2.result c.q-3.result c.group.result c.members.result c.back_to.result c.place_among-place.result c.members_at-last.result.now s_is c.q.ensures.is c.q-2.ensures.is c.q-3.ensures.is c.group.ensures.is c.members_at-last.ensures.are c.back_to.ensures c.members.ensures.is c.place_among-place.ensures in
    let start = c.start-start.ensures.is ∙ ap (λ (x : Rows). first_row x (c.args.check % c.q.result)) c.requires.layers ∙ ap (λ x. first_row rows (c.args.check % x)) (c.q.ensures.is ∙ q) in
    let low = place_low rows c.args.check c.args.at shaped c.requires.check c.requires.at in
    let within = place_within rows c.args.check (place_at rows c.args.check i) shaped c.requires.check low in
    let few = rows_few rows shaped in
    let few' : first_row rows rows.shape.q * rows.shape.group ≤ 4199040000 * rows.shape.group = mul-le-mul_right rows.shape.group few in
    let some = shaped.q_some in
    let before = first_row_before rows (c.args.check % rows.shape.q) rows.shape.q (omega arith) in
    record { fits = omega (arith, place, start, low, before, few) }

pub overflow_mul-result : goal.overflow_mul-result
overflow_mul-result c =
    let rows = c.args.matrix.now in
    let i = get_or (members (code_of rows) c.args.check) c.args.at 0 in
    let shaped = c.requires.fit.shaped in
    let s_is = c.shape-shape.ensures.is in
    let q = ap (λ (x : Shape). x.q) s_is in
    let place = same_place rows c.args.check i c.shape-shape.result c.q.result c.q-2.result c.q-3.result c.group.result c.members.result c.back_to.result c.place_among-place.result c.members_at-last.result.now s_is c.q.ensures.is c.q-2.ensures.is c.q-3.ensures.is c.group.ensures.is c.members_at-last.ensures.are c.back_to.ensures c.members.ensures.is c.place_among-place.ensures in
    let start = c.start-start.ensures.is ∙ ap (λ (x : Rows). first_row x (c.args.check % c.q.result)) c.requires.layers ∙ ap (λ x. first_row rows (c.args.check % x)) (c.q.ensures.is ∙ q) in
    let low = place_low rows c.args.check c.args.at shaped c.requires.check c.requires.at in
    let within = place_within rows c.args.check (place_at rows c.args.check i) shaped c.requires.check low in
    let few = rows_few rows shaped in
    let few' : first_row rows rows.shape.q * rows.shape.group ≤ 4199040000 * rows.shape.group = mul-le-mul_right rows.shape.group few in
    let product : (c.start-start.result + c.place_among-place.result) * c.group-2.result ≡ (first_row rows (c.args.check % rows.shape.q) + place_at rows c.args.check i) * rows.shape.group = λ x. (start x + place x) * (c.group-2.ensures.is ∙ ap (λ (y : Shape). y.group) s_is) x in
    record { fits = omega (arith, product, within, few', shaped.group_most) }

pub overflow_add-result-2 : goal.overflow_add-result-2
overflow_add-result-2 c =
    let rows = c.args.matrix.now in
    let i = get_or (members (code_of rows) c.args.check) c.args.at 0 in
    let shaped = c.requires.fit.shaped in
    let s_is = c.shape-shape.ensures.is in
    let q = ap (λ (x : Shape). x.q) s_is in
    let place = same_place rows c.args.check i c.shape-shape.result c.q.result c.q-2.result c.q-3.result c.group.result c.members.result c.back_to.result c.place_among-place.result c.members_at-last.result.now s_is c.q.ensures.is c.q-2.ensures.is c.q-3.ensures.is c.group.ensures.is c.members_at-last.ensures.are c.back_to.ensures c.members.ensures.is c.place_among-place.ensures in
    let start = c.start-start.ensures.is ∙ ap (λ (x : Rows). first_row x (c.args.check % c.q.result)) c.requires.layers ∙ ap (λ x. first_row rows (c.args.check % x)) (c.q.ensures.is ∙ q) in
    let low = place_low rows c.args.check c.args.at shaped c.requires.check c.requires.at in
    let within = place_within rows c.args.check (place_at rows c.args.check i) shaped c.requires.check low in
    let few = rows_few rows shaped in
    let few' : first_row rows rows.shape.q * rows.shape.group ≤ 4199040000 * rows.shape.group = mul-le-mul_right rows.shape.group few in
    let product : (c.start-start.result + c.place_among-place.result) * c.group-2.result ≡ (first_row rows (c.args.check % rows.shape.q) + place_at rows c.args.check i) * rows.shape.group = λ x. (start x + place x) * (c.group-2.ensures.is ∙ ap (λ (y : Shape). y.group) s_is) x in
    let lane : c.args.check / c.q-2.result ≡ c.args.check / rows.shape.q = ap (λ x. c.args.check / x) (c.q-2.ensures.is ∙ q) in
    record { fits = omega (arith, product, lane, within, few', shaped.group_most) }

pub returns-clause-is : goal.returns-clause-is
returns-clause-is c =
    let rows = c.args.matrix.now in
    let i = get_or (members (code_of rows) c.args.check) c.args.at 0 in
    let s_is = c.shape-shape.ensures.is in
    let q = ap (λ (x : Shape). x.q) s_is in
    let place = same_place rows c.args.check i c.shape-shape.result c.q.result c.q-2.result c.q-3.result c.group.result c.members.result c.back_to.result c.place_among-place.result c.members_at-last.result.now s_is c.q.ensures.is c.q-2.ensures.is c.q-3.ensures.is c.group.ensures.is c.members_at-last.ensures.are c.back_to.ensures c.members.ensures.is c.place_among-place.ensures in
    let start = c.start-start.ensures.is ∙ ap (λ (x : Rows). first_row x (c.args.check % c.q.result)) c.requires.layers ∙ ap (λ x. first_row rows (c.args.check % x)) (c.q.ensures.is ∙ q) in
    λ x. (start x + place x) * (c.group-2.ensures.is ∙ ap (λ (y : Shape). y.group) s_is) x + c.args.check / (c.q-2.ensures.is ∙ q) x

pub returns-clause-within : goal.returns-clause-within
returns-clause-within c =
    let rows = c.args.matrix.now in
    let i = get_or (members (code_of rows) c.args.check) c.args.at 0 in
    let shaped = c.requires.fit.shaped in
    let low = place_low rows c.args.check c.args.at shaped c.requires.check c.requires.at in
    omega (arith, returns-clause-is c, place_within rows c.args.check (place_at rows c.args.check i) shaped c.requires.check low)
