use Rattle.std.proofs.Common.{ap, not, ◌∙◌}
use Rattle.coords.proofs.Equal.{equal_is_same}
use Rattle.shape_outline_corners.proofs.rises.Goals as goal

pub returns : goal.returns
returns c = rw (← c.corner_at-c.ensures) (c.ne.ensures ∙ ap not (equal_is_same _ _))
