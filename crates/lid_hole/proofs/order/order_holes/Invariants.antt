use Rattle.std.proofs.Common.{drop, length, take, ◌-◌, ◌≡◌, ◌≤◌}
use Rattle.lid_hole.specs.Contract.Order.{order_of, order_step}
use Rattle.lists.specs.Loops.{loop}
use Rattle.lid_hole.proofs.order.order_holes.Given as goal

abbrev pub invariant-loop-g : goal.invariant-loop-g
invariant-loop-g l =
    (length l.order ≡ length l.initial.order) × (l.g ≤ length l.small) × (l.c ≤ l.g) × (loop (order_step l.rights l.small) (length l.small - l.g) l.g (take l.c l.order) ≡ order_of l.rights l.small)
    × (drop l.c l.order ≡ drop l.c l.initial.order)
