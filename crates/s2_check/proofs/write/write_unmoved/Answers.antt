use Rattle.std.proofs.Common.{◌<◌, replicate, arith, sym, ◌∙◌}
use Rattle.std.proofs.lemmas.List.{length-replicate, get_or-replicate}
use Rattle.std.proofs.lemmas.Result.{err_from_is_err_and}
use Rattle.s2_certfile.specs.Format.{move}
use Rattle.s2_certfile.proofs.Pages.{entry_through, entry_part}
use Rattle.s2_check.specs.Moves.{no_move}
use Rattle.s2_check.proofs.write.write_unmoved.Goals as goal

pub returns-in_err-write_move-clause-bytes : goal.returns-in_err-write_move-clause-bytes
returns-in_err-write_move-clause-bytes g c =
    let n = c.args.count in
    let i = c.loop-i.i in
    let low : i < n = omega (arith, c.loop-i-test.true) in
    let failed = err_from_is_err_and c.from_residual.result c.from_residual.ensures.1 in
    rw failed.1 (entry_part move.bytes (replicate n no_move) i no_move no_move _ _ _ _ _ (omega (arith, length-replicate n no_move)) (sym (get_or-replicate n i no_move no_move low)) c.loop-i.invariant.bytes c.in_err-write_move.ensures.bytes)

pub loop-i-preserved : goal.loop-i-preserved
loop-i-preserved g c =
    let n = c.args.count in
    let i = c.loop-i.i in
    let low : i < n = omega (arith, c.loop-i-test.true) in
    record {
      bytes = entry_through move.bytes (replicate n no_move) i no_move no_move _ _ _ _ _ (omega (arith, length-replicate n no_move)) (sym (get_or-replicate n i no_move no_move low)) _ c.loop-i.invariant.bytes c.in_ok-write_move.ensures.bytes;
      count = c.in_ok-write_move.ensures.cause ∙ c.loop-i.invariant.count;
    }
