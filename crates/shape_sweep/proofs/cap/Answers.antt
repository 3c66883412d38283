use Rattle.face.proofs.Canvases.{draws_part}
use Rattle.shape.specs.Shapes.{cap}
use Rattle.shape_sweep.proofs.cap.Goals as goal

pub returns : goal.returns
unfolding cap
returns c = draws_part 4 c.quad.ensures
