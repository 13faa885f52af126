use Rattle.std.proofs.Common.{◌≡◌, IsTrue, get_or, map, arith}
use Rattle.std.proofs.lemmas.Grind.{common_steps}
use Rattle.s2_library.specs.Shelves.{HaveSameRows}
use Rattle.s2_library.proofs.Shelves.{none_more, item_is}
use Rattle.s2_library.proofs.shelf.Shelf.find.Goals as goal

pub loop-code-preserved : goal.loop-code-preserved
loop-code-preserved c k low same =
    let m = c.args.matrix.now in
    let x = c.code-item.result in
    let items = c.deref-code-items.result.now in
    let view : c.args.self.now ≡ map (λ b. b.now) items = grind (arith, common_steps) in
    let is : get_or c.args.self.now c.loop-code.code-index m ≡ x.now = item_is items c.args.self.now c.loop-code.code-index x m view c.loop-code-test.true c.code-item.is in
    let differs : HaveSameRows x.now m → ⊥ = (λ s. (let t : IsTrue c.are_same.result = c.are_same.ensures.1 s in grind arith)) in
    none_more c.args.self.now m x.now c.loop-code.code-index k c.loop-code.invariant is differs low same
