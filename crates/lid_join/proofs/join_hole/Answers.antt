use Rattle.std.proofs.Common.{arith, get_or, length-take-le, sym}
use Rattle.lid_hole.proofs.HoleLaws.{hole_front}
use Rattle.lid_join.proofs.join_hole.Goals as goal

pub slice_bounds-join-end-2 : goal.slice_bounds-join-end-2
slice_bounds-join-end-2 c = sym (length-take-le _ _ (omega arith))

pub join-requires : goal.join-requires
join-requires c = let a = c.args in
    omega (arith, length-take-le (get_or a.counts.holes.now a.g 0) c.write_hole.new.hole (omega arith))

pub returns : goal.returns
returns c = let w = c.write_hole.ensures.hole_after in
    record { hole_joined = rw (hole_front _ _ _ _ _ _ w) at c.join.ensures; hole_after = w }
