use Rattle.std.proofs.Common.{◌∙◌}
use Rattle.mesh_measure.proofs.Counting.{counted_exact}
use Rattle.mesh_measure.proofs.measure.Goals as goal

pub returns : goal.returns
returns c = c.count_scene.ensures ∙ counted_exact _
