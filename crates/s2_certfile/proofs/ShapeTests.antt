-- The test on the numbers of a header says what a shape is.
use Rattle.std.proofs.Common.{◌≡◌, true, le-leb}
use Rattle.std.proofs.lemmas.Bool.{and_parts, and_from, leb-true}
use Rattle.s2_mode.specs.Shape.{Shape, IsShape, code_bits}
use Rattle.s2_certfile.specs.Format.{is_shape, ShapeLaw}

shape_of_test : (s : Shape) → is_shape s ≡ true → IsShape s
shape_of_test s h =
    let group = and_parts _ _ h in
    let most = and_parts _ _ group.1 in
    let groups = and_parts _ _ most.1 in
    let last = and_parts _ _ groups.1 in
    record { group_some = leb-true 1 s.group group.0; group_most = leb-true s.group 360 most.0; groups_some = leb-true 1 s.groups groups.0; q_some = leb-true 1 s.q last.0; few = leb-true (code_bits s) 64800 last.1 }

pub shape_passes : (s : Shape) → IsShape s → is_shape s ≡ true
shape_passes s h =
    and_from _ _ (le-leb 1 s.group h.group_some) (and_from _ _ (le-leb s.group 360 h.group_most) (and_from _ _ (le-leb 1 s.groups h.groups_some) (and_from _ _ (le-leb 1 s.q h.q_some) (le-leb (code_bits s) 64800 h.few))))

pub shape_lem : ShapeLaw
shape_lem s = (shape_of_test s, shape_passes s)
