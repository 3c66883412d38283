use Rattle.std.proofs.Common.{◌∙◌}
use Rattle.mesh_bound_scene.proofs.DrawnExact.{drawn_exact}
use Rattle.mesh_bound_scene.proofs.exact_at.Goals as goal

pub returns : goal.returns
returns c = c.of_shape.ensures ∙ drawn_exact c.draw-d.ensures.drew

pub draw-d-requires : goal.draw-d-requires
draw-d-requires c = c.requires
