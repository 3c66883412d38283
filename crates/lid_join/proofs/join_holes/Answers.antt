use Rattle.std.proofs.Common.{arith}
use Rattle.lid_join.proofs.JoinLaws.{join_start, join_again, join_end, join_room, next_fit, next_room}
use Rattle.lid_flat.specs.Flats.{flats_in}
use Rattle.lid_join.proofs.join_holes.Goals as goal

pub loop-g-init : goal.loop-g-init
loop-g-init c = let a = c.args in
    join_start (flats_in a.polygon) a.counts.outer a.counts.holes.now a.order.now a.ring.now a.hole.now a.log.now a.m a.n (omega arith) c.requires.each

pub join_hole-places-requires : goal.join_hole-places-requires
join_hole-places-requires c = let a = c.args in
    record { counts_bound = c.requires.counts_bound; joinable = (next_fit (flats_in a.polygon) a.counts.outer a.counts.holes.now a.order.now a.ring.now a.hole.now a.log.now a.m a.n c.loop-g.ring c.loop-g.hole c.loop-g.log c.loop-g.places c.loop-g.entries c.loop-g.g-index c.loop-g.invariant c.loop-g-test.true).0; g_in_bounds = omega (arith, next_room (flats_in a.polygon) a.counts.outer a.counts.holes.now a.order.now a.ring.now a.hole.now a.log.now a.m a.n c.loop-g.ring c.loop-g.hole c.loop-g.log c.loop-g.places c.loop-g.entries c.loop-g.g-index c.loop-g.invariant c.loop-g-test.true) }

pub loop-g-preserved : goal.loop-g-preserved
loop-g-preserved c = let a = c.args in
    join_again (flats_in a.polygon) a.counts.outer a.counts.holes.now a.order.now a.ring.now a.hole.now a.log.now a.m a.n c.loop-g.ring c.loop-g.hole c.loop-g.log c.loop-g.places c.loop-g.entries c.loop-g.g-index c.loop-g.invariant c.loop-g-test.true _ _ _ _ c.join_hole-places.auto.ring c.join_hole-places.auto.hole c.join_hole-places.auto.log c.join_hole-places.ensures.hole_joined c.join_hole-places.ensures.hole_after

pub shape_of-ring : goal.shape_of-ring
shape_of-ring c = c.loop-g.invariant.ring_long

pub shape_of-hole : goal.shape_of-hole
shape_of-hole c = c.loop-g.invariant.hole_long

pub shape_of-log : goal.shape_of-log
shape_of-log c = c.loop-g.invariant.log_long

pub returns : goal.returns
returns c = let a = c.args in
    record { holes_joined = join_end (flats_in a.polygon) a.counts.outer a.counts.holes.now a.order.now a.ring.now a.hole.now a.log.now a.m a.n c.loop-g.ring c.loop-g.hole c.loop-g.log c.loop-g.places c.loop-g.entries c.loop-g.g-index c.loop-g.invariant c.loop-g-test.false; hole_after = join_room (flats_in a.polygon) a.counts.outer a.counts.holes.now a.order.now a.ring.now a.hole.now a.log.now a.m a.n c.loop-g.ring c.loop-g.hole c.loop-g.log c.loop-g.places c.loop-g.entries c.loop-g.g-index c.loop-g.invariant c.loop-g-test.false }
