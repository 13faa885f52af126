use Rattle.std.proofs.Common.{◌≡◌, length, length-take, take, arith}
use Rattle.s2_resync.proofs.seek.begin_packet.Goals as goal

pub slice_bounds-extend_from_slice-end : goal.slice_bounds-extend_from_slice-end
slice_bounds-extend_from_slice-end c = omega (arith, length-take 188 c.deref.result.now, c.deref.ensures.len, c.requires.whole)

pub unwrap-requires : goal.unwrap-requires
unwrap-requires c =
    let size : length (take 188 c.deref.result.now) ≡ 188 = omega (arith, length-take 188 c.deref.result.now, c.deref.ensures.len, c.requires.whole) in
    c.extend_from_slice.ensures.succeeds (omega (arith, size, c.requires.none, c.requires.room))
