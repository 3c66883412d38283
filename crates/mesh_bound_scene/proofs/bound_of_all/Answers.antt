use Rattle.std.proofs.Common.{arith}
use Rattle.mesh_bound_scene.proofs.Sums.{sums_start, record_inside, can_read, place_fits, can_sum, sums_next, sums_end}
use Rattle.mesh_bound_scene.proofs.bound_of_all.Goals as goal

pub loop-init : goal.loop-init
loop-init c = sums_start _ _ _ _ _ c.requires

pub header_at-h-requires : goal.header_at-h-requires
header_at-h-requires c = record_inside c.loop.invariant c.loop-test.true

pub overflow_add-at : goal.overflow_add-at
overflow_add-at c = let q = can_read c.loop.invariant c.loop-test.true c.header_at-h.ensures in omega (arith, q.inside, q.short)

pub bound_at-requires : goal.bound_at-requires
bound_at-requires c = can_read c.loop.invariant c.loop-test.true c.header_at-h.ensures

pub add-most-requires : goal.add-most-requires
add-most-requires c = can_sum c.loop.invariant c.loop-test.true c.header_at-h.ensures c.bound_at.ensures

pub overflow_add-at-in-loop : goal.overflow_add-at-in-loop
overflow_add-at-in-loop c = omega (arith, place_fits c.loop.invariant c.loop-test.true c.header_at-h.ensures)

pub loop-preserved : goal.loop-preserved
loop-preserved c = sums_next c.loop.invariant c.loop-test.true c.header_at-h.ensures c.bound_at.ensures c.add-most.ensures

pub returns : goal.returns
returns c = sums_end c.loop.invariant c.loop-test.false
