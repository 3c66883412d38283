use Rattle.shape.specs.Contract.Stages.{solid_stages}
use Rattle.shape.proofs.Canvases.{drawn_nothing}
use Rattle.shape_solid.proofs.solid.Goals as goal

pub returns-in-Unsized : goal.returns-in-Unsized
unfolding solid_stages
returns-in-Unsized c = rw c.in-Unsized.is drawn_nothing
