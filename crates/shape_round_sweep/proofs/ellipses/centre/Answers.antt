use Rattle.shape.specs.Shapes.{ellipse}
use Rattle.shape_round_sweep.proofs.ellipses.centre.Goals as goal

pub returns : goal.returns
unfolding ellipse
returns c = c.lerp.ensures
