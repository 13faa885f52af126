use Rattle.std.proofs.Common.{arith, refl, ◌∙◌}
use Rattle.std.proofs.lemmas.Result.{err_from_is_err_and}
use Rattle.s2_certfile.specs.Format.{move}
use Rattle.s2_certfile.proofs.Pages.{entry_through, entry_part}
use Rattle.s2_check.specs.Moves.{no_move}
use Rattle.s2_check.proofs.write.write_moves.Goals as goal

pub returns-in_err-write_move-clause-bytes : goal.returns-in_err-write_move-clause-bytes
returns-in_err-write_move-clause-bytes g c =
    let failed = err_from_is_err_and c.from_residual.result c.from_residual.ensures.1 in
    rw failed.1 (entry_part move.bytes c.args.list.now c.loop-value.value-index no_move _ _ _ _ _ _ (omega (arith, c.loop-value-test.true)) refl c.loop-value.invariant.bytes c.in_err-write_move.ensures.bytes)

pub loop-value-preserved : goal.loop-value-preserved
loop-value-preserved g c = record {
  bytes = entry_through move.bytes c.args.list.now c.loop-value.value-index no_move _ _ _ _ _ _ (omega (arith, c.loop-value-test.true)) refl _ c.loop-value.invariant.bytes c.in_ok-write_move.ensures.bytes;
  count = c.in_ok-write_move.ensures.cause ∙ c.loop-value.invariant.count;
}
