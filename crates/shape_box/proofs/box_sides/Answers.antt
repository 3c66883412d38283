use Rattle.std.proofs.Common.{lit≤}
use Rattle.face.proofs.Canvases.{draws_part}
use Rattle.shape.proofs.Canvases.{draws_left}
use Rattle.shape_box.specs.Contract.Axes.{depth_along, part_along}
use Rattle.shape_box.proofs.BoxLaws.{box_face_sized, one_side, both_sides}
use Rattle.shape_box.proofs.box_sides.Goals as goal

pub returns-then-depth : goal.returns-then-depth
returns-then-depth c = let b = c.args.b in
    one_side b.origin b.turn b.length b.width b.height _ (depth_along b c.args.axis) (part_along c.args.axis) c.direction-out.ensures c.box_face.ensures (rw c.depth-depth.ensures at c.if-depth.true)

pub box_face-requires-2 : goal.box_face-requires-2
box_face-requires-2 c = draws_left c.requires (draws_part 0 c.box_face.ensures) (box_face_sized _ _ _ _ _ _ _ _ _) (lit≤ tt) (lit≤ tt)

pub returns : goal.returns
returns c = let b = c.args.b in
    both_sides b.origin b.turn b.length b.width b.height _ (depth_along b c.args.axis) (part_along c.args.axis) c.direction-out.ensures c.box_face.ensures (rw c.depth-depth.ensures at c.if-depth.false)
    c.neg.ensures c.box_face-2.ensures
