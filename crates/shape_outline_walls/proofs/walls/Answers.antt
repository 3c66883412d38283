use Rattle.std.proofs.Common.{ap, arith, le_antisymm, ◌-◌, ◌<◌, ◌∙◌}
use Rattle.lists.specs.Loops.{list}
use Rattle.scene_field.specs.Fields.{corner_at}
use Rattle.face.proofs.Canvases.{draws_none}
use Rattle.face.proofs.Draws.{countable_less}
use Rattle.shape.specs.Shapes.{walls}
use Rattle.shape_outline_corners.specs.Contract.Outlines.{corners_of}
use Rattle.shape_outline_walls.proofs.WallLaws.{wall_drew, walls_next, walls_countable}
use Rattle.shape_outline_walls.proofs.walls.Goals as goal

pub loop-k-init : goal.loop-k-init
unfolding walls list
loop-k-init c = draws_none

pub quad-requires : goal.quad-requires
quad-requires c = let a = c.args in
    let k = c.loop-k.k in
    let below = c.loop-k-test.true in
    countable_less (walls_countable (corners_of a.row) a.normal k a.edges (a.edges - k) c.requires.2 c.loop-k.invariant (omega arith)) (omega arith) (omega arith)

pub loop-k-preserved : goal.loop-k-preserved
loop-k-preserved c = let a = c.args in
    let r = a.row in
    let k = c.loop-k.k in
    let below = c.loop-k-test.true in
    let h : k < r.n = omega (arith, below, c.requires.1) in
    let reached = c.corner_at-b.ensures ∙ ap (corner_at r.s.now) c.next_place.ensures.0 in
    walls_next (corners_of r) a.normal k c.loop-k.invariant (wall_drew r.s.now r.n r.at a.normal k h c.corner_at-a.ensures reached c.sub.ensures c.cross-out.ensures c.quad.ensures)

pub returns : goal.returns
returns c = rw (le_antisymm c.loop-k.auto.k-end c.loop-k-test.false) at c.loop-k.invariant
