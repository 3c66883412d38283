use Rattle.std.proofs.Common.{arith, length-take-le, sym, ◌+◌}
use Rattle.lid_hole.proofs.PutLaws.{order_skip, order_put}
use Rattle.lid_hole.proofs.order.order_hole.Goals as goal

pub returns-then-small-g : goal.returns-then-small-g
returns-then-small-g c = let a = c.args in
    record { holes_ordered = order_skip a.rights.now a.small.now a.g a.order.now a.c (omega arith) c.if-small-g.true; lower_bound = (omega arith, omega arith) }

pub slice_bounds-find_place-end-2 : goal.slice_bounds-find_place-end-2
slice_bounds-find_place-end-2 c = sym (length-take-le _ _ (omega arith))

pub slice_bounds-insert-end-2 : goal.slice_bounds-insert-end-2
slice_bounds-insert-end-2 c = sym (length-take-le _ _ (omega arith))

pub insert-requires : goal.insert-requires
insert-requires c = let a = c.args in
    omega (arith, c.find_place-p.ensures.1, length-take-le a.c a.order.now (omega arith), length-take-le (a.c + 1) a.order.now (omega arith))

pub returns : goal.returns
returns c = let a = c.args in
    record { holes_ordered = order_put a.rights.now a.small.now a.g a.order.now a.c (omega arith) c.find_place-p.result _ c.if-small-g.false c.find_place-p.ensures.1 c.find_place-p.ensures.0 c.insert.auto.numbers c.insert.ensures; lower_bound = (omega arith, omega arith) }
