use Rattle.std.proofs.Common.{◌≡◌, ◌≤◌, ◌-◌, length, take, drop, vec_len, length-drop, ap, ◌∙◌, arith}
use Rattle.std.proofs.Math.Seq.{paste}
use Rattle.std.proofs.lemmas.List.{take_all}
use Rattle.std.proofs.lemmas.List.Edits.{take-paste}
use Rattle.s2_scan.proofs.reading.keep.Goals as goal

pub returns-clause-block : goal.returns-clause-block
returns-clause-block c =
    let xs = c.args.feed.now.block.items in
    let size : vec_len c.args.feed.now.block ≡ 33124 = c.requires.size in
    let long : length xs ≡ 33124 = omega arith in
    let kept : length (drop 32768 xs) ≡ 356 = omega (arith, length-drop 32768 xs) in
    let enough : 356 ≤ length (drop 32768 xs) = omega arith in
    let all : length (drop 32768 xs) ≤ 356 = omega arith in
    let none : 0 ≤ length xs = omega arith in
    let count : vec_len c.args.feed.now.block - 32768 ≡ 356 = omega arith in
    ap (take 356) (c.copy_within.ensures.items ∙ ap (λ n. paste xs 0 (drop 32768 xs) n) count) ∙ (take-paste xs 0 (drop 32768 xs) 356 none enough ∙ take_all 356 (drop 32768 xs) all)
