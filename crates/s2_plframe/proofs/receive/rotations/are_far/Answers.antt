use Rattle.std.proofs.Common.{◌≡◌, ◌%◌, ◌^◌, ℕ, true, bit_xor, ap, sym, subst, ◌∙◌}
use Rattle.std.proofs.lemmas.Bool.{eqb-true}
use Rattle.s2_plframe.specs.Inside.{AreApart, is_far}
use Rattle.s2_plframe.proofs.FarHeaders.{far_itself, far_opposite}
use Rattle.s2_plframe.proofs.receive.rotations.are_far.Goals as goal

pub returns-then-first-headers-clause-first : goal.returns-then-first-headers-clause-first
returns-then-first-headers-clause-first c = λ e.
    let h = c.args.headers.now in
    let passes : is_far h.apart (h.coded % 2 ^ 64) (h.dummy % 2 ^ 64) (h.dummy_pilots % 2 ^ 64) (c.args.window % 2 ^ 64) ≡ true =
    ap (is_far h.apart (h.coded % 2 ^ 64) (h.dummy % 2 ^ 64) (h.dummy_pilots % 2 ^ 64)) (sym c.low-first.ensures) ∙ sym c.is_far.ensures ∙ c.if-is_far.true in
    far_itself h.coded h.dummy h.dummy_pilots h.dummy_short h.dummy_both h.opposite h.apart c.requires c.args.window passes

pub returns-then-first-headers-clause-second : goal.returns-then-first-headers-clause-second
returns-then-first-headers-clause-second c = λ e.
    let h = c.args.headers.now in
    let passes : is_far h.apart (h.coded % 2 ^ 64) (h.dummy % 2 ^ 64) (h.dummy_pilots % 2 ^ 64) (c.args.window % 2 ^ 64) ≡ true =
    ap (is_far h.apart (h.coded % 2 ^ 64) (h.dummy % 2 ^ 64) (h.dummy_pilots % 2 ^ 64)) (sym c.low-first.ensures) ∙ sym c.is_far.ensures ∙ c.if-is_far.true in
    let is : bit_xor c.low-first.result h.opposite ≡ c.low-second.result = eqb-true (bit_xor c.low-first.result h.opposite) c.low-second.result e in
    let same : bit_xor (c.args.window % 2 ^ 64) h.opposite ≡ c.args.turned % 2 ^ 64 = ap (λ (n : ℕ). bit_xor n h.opposite) (sym c.low-first.ensures) ∙ is ∙ c.low-second.ensures in
    far_opposite h.coded h.dummy h.dummy_pilots h.dummy_short h.dummy_both h.opposite h.apart c.requires c.args.window passes c.args.turned same

pub returns-else-first-headers-clause-first : goal.returns-else-first-headers-clause-first
returns-else-first-headers-clause-first c = λ e.
    let h = c.args.headers.now in
    let passes : is_far h.apart (h.coded % 2 ^ 64) (h.dummy % 2 ^ 64) (h.dummy_pilots % 2 ^ 64) (c.args.window % 2 ^ 64) ≡ true =
    ap (is_far h.apart (h.coded % 2 ^ 64) (h.dummy % 2 ^ 64) (h.dummy_pilots % 2 ^ 64)) (sym c.low-first.ensures) ∙ sym c.is_far.ensures ∙ c.if-is_far.true in
    far_itself h.coded h.dummy h.dummy_pilots h.dummy_short h.dummy_both h.opposite h.apart c.requires c.args.window passes

pub returns-else-first-headers-clause-second : goal.returns-else-first-headers-clause-second
returns-else-first-headers-clause-second c = λ e.
    let h = c.args.headers.now in
    let passes : is_far h.apart (h.coded % 2 ^ 64) (h.dummy % 2 ^ 64) (h.dummy_pilots % 2 ^ 64) (c.args.turned % 2 ^ 64) ≡ true =
    ap (is_far h.apart (h.coded % 2 ^ 64) (h.dummy % 2 ^ 64) (h.dummy_pilots % 2 ^ 64)) (sym c.low-second.ensures) ∙ sym c.is_far-else-first-headers.ensures ∙ e in
    far_itself h.coded h.dummy h.dummy_pilots h.dummy_short h.dummy_both h.opposite h.apart c.requires c.args.turned passes
