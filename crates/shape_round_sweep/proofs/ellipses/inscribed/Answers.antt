use Rattle.std.proofs.Common.{refl}
use Rattle.shape.specs.Shapes.{ellipse}
use Rattle.shape_round_sweep.proofs.ellipses.inscribed.Goals as goal

pub returns : goal.returns
unfolding ellipse
returns c =
    rw (c.ellipse_points.ensures, c.sub-across.ensures, c.sub-up.ensures, c.lerp.ensures, c.lerp-2.ensures, c.centre-c.ensures) refl
