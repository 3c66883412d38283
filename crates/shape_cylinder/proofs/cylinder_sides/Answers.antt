use Rattle.std.proofs.Common.{arith, le_antisymm}
use Rattle.face.proofs.Canvases.{draws_none, draws_next}
use Rattle.lists.specs.Loops.{list}
use Rattle.angle_circle.specs.Circle.{side_angle}
use Rattle.angle_circle.proofs.Table.{tables}
use Rattle.shape.proofs.Canvases.{draws_left}
use Rattle.shape_cylinder.proofs.CylinderLaws.{side_read, side_drew, sides_sized}
use Rattle.shape.specs.Shapes.{cylinder_side}
use Rattle.shape_cylinder.proofs.cylinder_sides.Goals as goal

pub loop-k-init : goal.loop-k-init
unfolding list
loop-k-init c = (tables side_angle c.side_sin_cos-angles.ensures, draws_none)

pub quad-requires : goal.quad-requires
quad-requires c = let h = c.loop-k-test.true in
    draws_left c.requires c.loop-k.invariant.1 (sides_sized _ _ _ c.loop-k.k) (omega (arith, h)) (omega (arith, h))

pub loop-k-preserved : goal.loop-k-preserved
loop-k-preserved c = let a = c.args in
    let l = c.loop-k in
    let bottom = a.bottom.now in
    let top = a.top.now in
    let h = c.loop-k-test.true in
    let out = side_read l.k h l.invariant.0 a.turn c.frame-out.ensures in
    let one = side_drew a.turn bottom top l.k _ _ h c.told-bottom c.told-top out c.quad.ensures in
    (l.invariant.0, draws_next (cylinder_side a.turn bottom top) l.k l.invariant.1 one)

pub returns : goal.returns
returns c = rw (le_antisymm c.loop-k.auto.k-end c.loop-k-test.false) at c.loop-k.invariant.1
