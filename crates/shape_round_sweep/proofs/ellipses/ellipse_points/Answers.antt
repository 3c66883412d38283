-- `shape_round_sweep::ellipses::ellipse_points` meets its contract: the first k points of the ring are set. Assumes nothing.
use Rattle.std.proofs.Common.{ap₂, append-nil, le_antisymm, refl, replicate, ◌∙◌}
use lib.Ieee.{Float}
use Rattle.lists.specs.Loops.{list}
use Rattle.coords_vector.specs.Vectors.{scale}
use Rattle.coords.specs.Coords.{moved}
use Rattle.angle_circle.specs.Circle.{angle}
use Rattle.angle_circle.proofs.Table.{tables, cosine_at, sine_at}
use Rattle.shape.specs.Shapes.{ellipse_point}
use Rattle.shape_ring_face.proofs.Rings.{fill_next}
use Rattle.shape_round_sweep.proofs.ellipses.ellipse_points.Goals as goal

pub loop-k-init : goal.loop-k-init
unfolding list
loop-k-init c = (tables angle c.ring_sin_cos-angles.ensures, refl)

pub loop-k-preserved : goal.loop-k-preserved
unfolding ellipse_point
loop-k-preserved c = let a = c.args in
    let l = c.loop-k in
    let h = c.loop-k-test.true in
    let point = c.ellipse_point.ensures ∙ ap₂ (λ (x y : Float). moved (moved a.centre (scale a.across x)) (scale a.up y)) (cosine_at angle l.invariant.0 l.k h) (sine_at angle l.invariant.0 l.k h) in
    (l.invariant.0, rw (l.invariant.1, point, fill_next (ellipse_point a.centre a.across a.up) (replicate 16 a.centre) l.k a.centre h))

pub returns : goal.returns
returns c = (rw (le_antisymm c.loop-k.auto.k-end c.loop-k-test.false) at c.loop-k.invariant.1) ∙ (simp append-nil)
