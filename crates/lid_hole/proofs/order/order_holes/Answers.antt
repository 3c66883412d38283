use Rattle.std.proofs.Common.{ap, arith, length, length-take-le, refl, sym, ◌∙◌}
use Rattle.lid_hole.specs.Contract.Order.{order_of}
use Rattle.lists.proofs.Buffers.{over_is, over_front, over_behind, behind_later}
use Rattle.lists.proofs.Loops.{loop_start, loop_next, loop_end}
use Rattle.lid_hole.proofs.order.order_holes.Goals as goal

pub loop-g-init : goal.loop-g-init
unfolding order_of
loop-g-init c = (refl, omega arith, omega arith, loop_start _ _ _, refl)

pub loop-g-preserved : goal.loop-g-preserved
loop-g-preserved c = let l = c.loop-g in
    let o = c.order_hole-c in
    let done = o.ensures.holes_ordered in (
      o.auto.order ∙ l.invariant.0,
      omega arith,
      omega (arith, o.ensures.lower_bound.1),
      loop_next _ _ _ _ _ _ c.loop-g-test.true (over_front _ _ _ _ done.holes done.stands) l.invariant.3,
      over_behind _ _ _ _ done.holes done.stands ∙ behind_later l.c _ l.order _ o.ensures.lower_bound.0 l.invariant.4,
    )

pub shape_of-order : goal.shape_of-order
shape_of-order c = c.loop-g.invariant.0

pub returns : goal.returns
returns c = let l = c.loop-g in
    let e = loop_end _ _ _ _ _ c.loop-g-test.false l.invariant.3 in
    let size = sym (length-take-le l.c l.order (omega arith)) ∙ ap length e in
    record { stands = over_is l.c l.order _ _ size e l.invariant.4; holes = size }
