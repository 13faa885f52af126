use Rattle.std.proofs.Common.{rules, arith, ◌≡◌, ◌≤◌, length, get_or, decimal, refl}
use Rattle.std.proofs.lemmas.List.{take_rest}
use Rattle.s2_rows.proofs.RowWrites.{writes_on, all_written, address_text, row_written}
use Rattle.s2_rows.proofs.write.write_row.Goals as goal

pub loop-at-preserved : goal.loop-at-preserved
loop-at-preserved g c =
    let digits : c.as_bytes.result.now ≡ decimal (get_or c.args.row.now c.loop-at.at 0) = search rules in
    let first = rw digits at c.in_ok-write_full.ensures.bytes in
    let last = rw (c.after_address.ensures, take_rest) at c.in_ok-write_full-2.ensures.bytes in
    let one = writes_on _ _ _ _ _ _ _ c.loop-at.invariant.0 first (address_text _ _ c.loop-at-test.true) in
    (writes_on _ _ _ _ _ _ _ one last refl, search rules)

pub returns-clause-line : goal.returns-clause-line
returns-clause-line g c =
    let end : length c.args.row.now ≤ c.loop-at.at = omega arith in
    all_written _ _ _ _ c.loop-at.invariant.0 (row_written _ _ end)
