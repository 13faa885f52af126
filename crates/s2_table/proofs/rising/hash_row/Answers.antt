use Rattle.std.proofs.Common.{rules, arith, ◌≡◌, ◌≤◌, ◌+◌, ◌++◌, length, get_or, drop, decimal, ap, sym, ◌∙◌}
use Rattle.std.proofs.lemmas.List.{take_rest}
use Rattle.s2_rows.specs.RowTexts.{after_address, row_text}
use Rattle.s2_rows.proofs.RowWrites.{address_text, row_written}
use Rattle.s2_table.proofs.Hashing.{none_hashed, hashes_on, all_hashed}
use Rattle.s2_table.proofs.rising.hash_row.Goals as goal

pub loop-at-init : goal.loop-at-init
loop-at-init c = none_hashed c.args.hasher.now (row_text c.args.row.now)

pub loop-at-preserved : goal.loop-at-preserved
loop-at-preserved c =
    let row = c.args.row.now in
    let at = c.loop-at.at in
    let digits : c.as_bytes.result.now ≡ decimal (get_or row at 0) = search rules in
    let others : c.after_address.result.now ≡ after_address (drop (at + 1) row) = rw take_rest at c.after_address.ensures in
    let left = row_text (drop (at + 1) row) in
    let first : row_text (drop at row) ≡ c.as_bytes.result.now ++ (after_address (drop (at + 1) row) ++ left) = address_text row at c.loop-at-test.true ∙ ap (λ d. d ++ (after_address (drop (at + 1) row) ++ left)) (sym digits) in
    let second : after_address (drop (at + 1) row) ++ left ≡ c.after_address.result.now ++ left = ap (λ a. a ++ left) (sym others) in
    let one = hashes_on _ _ _ _ _ _ _ c.loop-at.invariant (λ text held. c.update.ensures text held) first in
    hashes_on _ _ _ _ _ _ _ one (λ text held. c.update-in-loop-at.ensures text held) second

pub returns : goal.returns
returns c =
    let end : length c.args.row.now ≤ c.loop-at.at = omega arith in
    all_hashed _ _ _ _ c.loop-at.invariant (row_written _ _ end)
