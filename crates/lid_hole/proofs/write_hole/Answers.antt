use Rattle.std.proofs.Common.{arith, get_or, length-take-le, refl, sym}
use Rattle.lid_hole.proofs.HoleLaws.{start_in, hole_small, hole_written}
use Rattle.lid_flat.specs.Flats.{flats_in}
use Rattle.lid_hole.proofs.write_hole.Goals as goal

pub slice_bounds-write_ring-end-2 : goal.slice_bounds-write_ring-end-2
slice_bounds-write_ring-end-2 c = sym (length-take-le _ _ (omega arith))

pub write_ring-requires : goal.write_ring-requires
write_ring-requires c = let a = c.args in
    omega (arith, c.hole_start-from.ensures, start_in a.counts.outer a.counts.holes.now a.g (omega arith), length-take-le (get_or a.counts.holes.now a.g 0) a.hole.now (omega arith))

pub returns : goal.returns
returns c = let a = c.args in
    record { value = hole_small a.counts.outer a.counts.holes.now (flats_in a.polygon) a.g (get_or a.counts.holes.now a.g 0) c.hole_start-from.result a.hole.now refl c.hole_start-from.ensures (omega arith) _ c.write_ring.ensures.value; hole_after = hole_written a.counts.outer a.counts.holes.now (flats_in a.polygon) a.g (get_or a.counts.holes.now a.g 0) c.hole_start-from.result a.hole.now refl c.hole_start-from.ensures (omega arith) _ c.write_ring.auto.ring c.write_ring.ensures.ring_after }
