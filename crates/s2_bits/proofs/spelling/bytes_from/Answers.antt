use Rattle.std.proofs.Common.{◌≡◌, ℕ, ◌+◌, ◌*◌, ◌<◌, ◌∙◌, List, length, get_or, set, take, subst, sym, arith, length-take}
use Rattle.std.proofs.lemmas.List.{get_or-take}
use Rattle.std.proofs.lemmas.List.FromFn.{fill_by_all}
use Rattle.std.proofs.lemmas.List.Edits.{fill_by_more}
use Rattle.s2_bits.specs.Bits.{byte_at}
use Rattle.s2_bits.proofs.spelling.bytes_from.Goals as goal

pub loop-i-preserved : goal.loop-i-preserved
loop-i-preserved c =
    let f : ℕ → ℕ = λ k. byte_at c.args.bits.now (8 * (c.args.first + k)) in
    subst (λ x. (k : ℕ) → k < c.loop-i.i + 1 → get_or (set c.loop-i.bytes c.loop-i.i x) k 0 ≡ f k) (sym c.byte_at.ensures)
    (fill_by_more f c.loop-i.bytes c.loop-i.i 0 (omega arith) c.loop-i.invariant)

pub returns : goal.returns
returns c =
    let n : ℕ = c.args.count in
    let bytes : List ℕ = c.loop-i.bytes in
    let long : length (take n bytes) ≡ n = omega (arith, length-take n bytes) in
    fill_by_all (λ k. byte_at c.args.bits.now (8 * (c.args.first + k))) (take n bytes) n 0 long
    (λ k low. get_or-take n bytes k 0 low ∙ c.loop-i.invariant k (omega arith))
