use Rattle.std.proofs.Common.{◌≡◌, List, ℤ, Result, Err, Some, refl}
use Rattle.std.proofs.lemmas.Result.{err_from_is_err_and}
use Rattle.std.specs.Prelude.{codes}
use Rattle.s2_mode.specs.Shape.{shape_of}
use Rattle.s2_rows.specs.Rows.{Rows}
use Rattle.s2_io.specs.declared.fault.Fault.{Fault}
use Rattle.s2_io.proofs.CommandLemmas.{refused, printed}
use Rattle.s2_judging.specs.Inputs.{AreInputs}
use Rattle.s2_judging.specs.Judging.{IsOwn}
use Rattle.s2_judging.proofs.DemoLemmas.{at_rows}
use Rattle.s2_judging.proofs.demo.print_own.Goals as goal

pub returns-in_err-own_read-clause-run : goal.returns-in_err-own_read-clause-run
returns-in_err-own_read-clause-run g c =
    let f = c.in_err-own_read.field-0.0 in
    let same = g.O.CountedWrite.contents c.args.out.now in
    let p = err_from_is_err_and c.from_residual.result c.from_residual.ensures.1 in
    let toy : c.of-shape.result ≡ shape_of 4 2 3 = c.of-shape.ensures in
    let Is : Result (Rows × List ℤ) Fault → Type 0 = AreInputs c.of-shape.result (Some c.new-rows.result.bytes.now) (g.S.CountedRead.remaining c.args.soft.now) in
    rw (p.1, p.2) (at_rows (g.S.CountedRead.remaining c.args.soft.now) (Err f) same same
    c.of-shape.result (shape_of 4 2 3) c.new-rows.result.bytes.now (codes "0 4 8\n0 1 2\n") toy c.new-rows.ensures
    (refused IsOwn Is f same same c.in_err-own_read.ensures.answers refl))

pub returns-clause-run : goal.returns-clause-run
returns-clause-run g c =
    let toy : c.of-shape.result ≡ shape_of 4 2 3 = c.of-shape.ensures in
    let Is : Result (Rows × List ℤ) Fault → Type 0 = AreInputs c.of-shape.result (Some c.new-rows.result.bytes.now) (g.S.CountedRead.remaining c.args.soft.now) in
    at_rows (g.S.CountedRead.remaining c.args.soft.now) c.print.result (g.O.CountedWrite.contents c.args.out.now) (g.O.CountedWrite.contents c.print.new.out)
    c.of-shape.result (shape_of 4 2 3) c.new-rows.result.bytes.now (codes "0 4 8\n0 1 2\n") toy c.new-rows.ensures
    (printed IsOwn Is c.in_ok-own_read.field-0 c.print.result (g.O.CountedWrite.contents c.args.out.now) (g.O.CountedWrite.contents c.print.new.out)
    c.in_ok-own_read.ensures.answers c.print.ensures.prints)
