use Rattle.std.proofs.Common.{◌≡◌, ℕ, ◌+◌, List, ◌++◌, ap, ◌∙◌, arith}
use Rattle.std.specs.List.{range_with_len}
use lib.Lanes.{pick_l}
use Rattle.s2_bits.specs.Bits.{bit_at}
use Rattle.s2_mode.specs.Lanes.{words_of}
use Rattle.s2_mode.proofs.Fours.{four_more}
use Rattle.s2_map.specs.Lanes.{psk_point}
use Rattle.s2_map.proofs.Eights.{point-fits}
use Rattle.s2_map.proofs.lanes.map_eight.Goals as goal

-- lanes from a place on
abbrev cut : ℕ → List ℕ → List ℕ
cut a v = pick_l 0 (v ++ v) (range_with_len a 8)

pub returns : goal.returns
returns c before =
    let at = c.args.at in
    let f = λ (k : ℕ). psk_point (bit_at c.args.first.now k) (bit_at c.args.second.now k) (bit_at c.args.third.now k) in
    let fits = λ (k : ℕ). point-fits (bit_at c.args.first.now k) (bit_at c.args.second.now k) (bit_at c.args.third.now k) in
    let none : at + 0 ≡ at = omega arith in
    let five : at + 5 ≡ at + 4 + 1 = omega arith in
    let six : at + 6 ≡ at + 4 + 2 = omega arith in
    let seven : at + 7 ≡ at + 4 + 3 = omega arith in
    let front = ap (cut 0) c.words-words.ensures ∙ (λ t. words_of (f (none t)) (f (at + 1)) (f (at + 2)) (f (at + 3))) in
    let back = ap (cut 8) c.words-words.ensures ∙ (λ t. words_of (f (at + 4)) (f (five t)) (f (six t)) (f (seven t))) in
    let first = c.put_four.ensures in
    let second = c.put_four-2.ensures in
    let half = four_more at f c.args.payload.now c.put_four.new.out c.symbols_from.result before first.before first.a first.b first.c first.d
    (c.symbols_from.ensures (f at) (f (at + 1)) (f (at + 2)) (f (at + 3)) (fits at) (fits (at + 1)) (fits (at + 2)) (fits (at + 3)) front) in
    let whole = four_more (at + 4) f c.put_four.new.out c.put_four-2.new.out c.symbols_from-2.result half second.before second.a second.b second.c second.d
    (c.symbols_from-2.ensures (f (at + 4)) (f (at + 4 + 1)) (f (at + 4 + 2)) (f (at + 4 + 3)) (fits (at + 4)) (fits (at + 4 + 1)) (fits (at + 4 + 2)) (fits (at + 4 + 3)) back) in
    λ k lt. whole k (omega (arith, lt))
