use Rattle.std.proofs.Common.{append-nil, le_antisymm, refl, replicate, ◌∙◌}
use Rattle.lists.specs.Loops.{list}
use Rattle.angle_circle.specs.Circle.{angle}
use Rattle.angle_circle.proofs.Table.{tables}
use Rattle.shape_ring_face.proofs.Rings.{fill_next}
use Rattle.shape.specs.Shapes.{ring_point, ring_at}
use Rattle.shape_cylinder.proofs.CylinderLaws.{ring_read}
use Rattle.shape_cylinder.proofs.ring_at.Goals as goal

pub loop-k-init : goal.loop-k-init
unfolding list
loop-k-init c = (tables angle c.ring_sin_cos-angles.ensures, refl)

pub loop-k-preserved : goal.loop-k-preserved
loop-k-preserved c = let a = c.args in
    let l = c.loop-k in
    let h = c.loop-k-test.true in
    let p = ring_read l.k h l.invariant.0 a.origin a.turn a.radius a.z c.placed.ensures in
    (l.invariant.0, rw (l.invariant.1, p, fill_next (ring_point a.origin a.turn a.radius a.z) (replicate 16 a.origin) l.k a.origin h))

pub returns : goal.returns
unfolding ring_at
returns c = (rw (le_antisymm c.loop-k.auto.k-end c.loop-k-test.false) at c.loop-k.invariant.1) ∙ (simp append-nil)
