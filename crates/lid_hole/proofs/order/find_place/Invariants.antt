use Rattle.std.proofs.Common.{drop, length, take, ◌++◌, ◌≡◌, ◌≤◌}
use Rattle.lid_hole.specs.Contract.Order.{insert_by}
use Rattle.lid_hole.proofs.order.find_place.Given as goal

abbrev pub invariant-loop-i : goal.invariant-loop-i
invariant-loop-i l = (l.i ≤ length l.order) × (take l.i l.order ++ insert_by l.rights l.g (drop l.i l.order) ≡ insert_by l.rights l.g l.order)
