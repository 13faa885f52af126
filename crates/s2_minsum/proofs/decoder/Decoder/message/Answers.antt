use Rattle.std.proofs.Common.{rules, ◌+◌, ◌<◌, ◌≤◌, length, SFits, w16, ap, ◌∙◌, arith}
use Rattle.std.proofs.lemmas.Int.{to_z-of_z}
use Rattle.s2_matrix.specs.Code.{code_of, members, first_edge}
use Rattle.s2_minsum.specs.Decoding.{Decoding, decoded}
use Rattle.s2_minsum.proofs.EdgeLemmas.{at_low, message_is}
use Rattle.s2_minsum.proofs.decoder.Decoder.message.Goals as goal

pub check_of_edge-check-requires : goal.check_of_edge-check-requires
check_of_edge-check-requires c =
    omega (arith, c.requires, ap (λ (v : Decoding). first_edge (code_of v.rows) (code_of v.rows).checks) c.self.view_is)

pub message_at-requires : goal.message_at-requires
message_at-requires c =
    let rows = c.self.inside.matrix.now in
    let check = c.check_of_edge-check.result in
    let low = at_low (code_of rows) c.args.edge check c.first_edge.result c.first_edge.ensures c.check_of_edge-check.ensures.from c.check_of_edge-check.ensures.before in
    record {
      check = omega (arith, c.check_of_edge-check.ensures.below, ap (λ (v : Decoding). (code_of v.rows).checks) c.self.view_is);
      at = omega (arith, low, ap (λ (v : Decoding). length (members (code_of v.rows) check)) c.self.view_is);
    }

pub returns : goal.returns
returns c =
    let d = c.args.self.now in
    let code = code_of d.rows in
    let edge = c.args.edge in
    let check = c.check_of_edge-check.result in
    let first = c.first_edge.ensures ∙ ap (λ (v : Decoding). first_edge (code_of v.rows) check) c.self.view_is in
    let from : first_edge code check ≤ edge = omega (arith, c.check_of_edge-check.ensures.from, ap (λ (v : Decoding). first_edge (code_of v.rows) check) c.self.view_is) in
    let before : edge < first_edge code (check + 1) = omega (arith, c.check_of_edge-check.ensures.before, ap (λ (v : Decoding). first_edge (code_of v.rows) (check + 1)) c.self.view_is) in
    let fits : SFits w16 c.message_at.result = search rules in
    λ j i has same. to_z-of_z w16 c.message_at.result fits ∙ message_is code (decoded d) edge check c.first_edge.result c.message_at.result first from before c.message_at.ensures j i has same
