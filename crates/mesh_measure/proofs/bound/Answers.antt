use Rattle.std.proofs.Common.{◌∙◌}
use Rattle.mesh_measure.proofs.Counting.{counted_highest}
use Rattle.mesh_measure.proofs.bound.Goals as goal

pub returns : goal.returns
returns c = c.count_scene.ensures ∙ counted_highest _ _
