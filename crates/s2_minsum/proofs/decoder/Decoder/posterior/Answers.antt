use Rattle.std.proofs.Common.{rules, ◌≡◌, ◌+◌, ◌*◌, ◌<◌, length, get_or, SFits, w16, ap, ◌∙◌, arith}
use Rattle.std.proofs.lemmas.Int.{to_z-of_z}
use Rattle.std.proofs.lemmas.List.{get_or_default}
use Rattle.s2_mode.specs.Shape.{Shape, code_bits}
use Rattle.s2_matrix.specs.Code.{code_of}
use Rattle.s2_minsum.specs.Plain.{posterior}
use Rattle.s2_bits.specs.Lanes16.{signed16}
use Rattle.s2_minsum.specs.Layout.{row_of_bit, lane_of_bit, kept_of, state_of}
use Rattle.s2_minsum.specs.Decoding.{Decoding, decoded}
use Rattle.s2_minsum.proofs.Places
use Rattle.s2_minsum.proofs.decoder.Decoder.posterior.Goals as goal

pub index-requires : goal.index-requires
index-requires c =
    let d = c.self.inside in
    let s = d.matrix.now.shape in
    let bit = c.args.bit in
    let low : bit < code_bits s = omega (arith, c.requires, ap (λ (v : Decoding). code_bits v.rows.shape) c.self.view_is) in
    let at : c.place_of.result ≡ row_of_bit s bit * s.group + lane_of_bit s bit = c.place_of.ensures ∙ ap (λ (x : Shape). row_of_bit x bit * x.group + lane_of_bit x bit) c.shape.ensures.is in
    omega (arith, at, Places.place_below s c.self.invariant.fit.shaped bit low, c.self.invariant.numbers.posteriors_long)

pub returns : goal.returns
returns c =
    let d = c.self.inside in
    let s = d.matrix.now.shape in
    let shaped = c.self.invariant.fit.shaped in
    let bit = c.args.bit in
    let low : bit < code_bits s = omega (arith, c.requires, ap (λ (v : Decoding). code_bits v.rows.shape) c.self.view_is) in
    let at : c.place_of.result ≡ row_of_bit s bit * s.group + lane_of_bit s bit = c.place_of.ensures ∙ ap (λ (x : Shape). row_of_bit x bit * x.group + lane_of_bit x bit) c.shape.ensures.is in
    let room : row_of_bit s bit * s.group + lane_of_bit s bit < length d.posteriors.items = omega (arith, Places.place_below s shaped bit low, c.self.invariant.numbers.posteriors_long) in
    let fits : SFits w16 c.cast_signed.result = search rules in
    let are = c.self.invariant.numbers.posteriors_are (row_of_bit s bit) (lane_of_bit s bit) (Places.row_below s shaped bit low) (Places.lane_below s shaped bit low) in
    to_z-of_z w16 c.cast_signed.result fits ∙ c.cast_signed.ensures
    ∙ ap signed16 (c.index.ensures ∙ ap (λ p. get_or d.posteriors.items p c.index.result.now) at ∙ get_or_default d.posteriors.items (row_of_bit s bit * s.group + lane_of_bit s bit) c.index.result.now 0 room)
    ∙ are ∙ ap (posterior (code_of d.matrix.now) (state_of d.matrix.now d.soft.items (kept_of d.matrix.now d.messages.items))) (Places.bit_again s shaped bit low) ∙ ap (λ (v : Decoding). posterior (code_of v.rows) (decoded v) bit) c.self.view_is
