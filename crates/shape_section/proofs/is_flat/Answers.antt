use Rattle.std.proofs.Common.{ap₂, ◌&&◌, ◌∙◌}
use Rattle.coords.proofs.Equal.{equal_is_same}
use Rattle.shape.specs.Shapes.{is_flat_section}
use Rattle.shape_section.proofs.is_flat.Goals as goal

pub returns : goal.returns
unfolding is_flat_section
returns c = let s = c.args.s in ap₂ ◌&&◌ (c.eq.ensures ∙ equal_is_same s.left.base s.left.top) (c.eq-2.ensures ∙ equal_is_same s.right.base s.right.top)
