use Rattle.std.proofs.Common.{◌∙◌}
use Rattle.object.proofs.Equal.{equal_corners}
use Rattle.shape.specs.Shapes.{same_corner, is_widthless_section}
use Rattle.shape_section.proofs.is_widthless.Goals as goal

pub returns : goal.returns
unfolding is_widthless_section same_corner
returns c = let s = c.args.s in c.eq.ensures ∙ equal_corners s.left s.right
