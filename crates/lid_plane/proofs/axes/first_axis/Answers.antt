use Rattle.lid_plane.specs.Plane.{first_axis}
use Rattle.lid_plane.proofs.axes.first_axis.Goals as goal

pub returns : goal.returns
unfolding first_axis
returns c = rw (c.normalize_or.ensures, c.sub.ensures, c.mul.ensures, c.dot.ensures, c.axis_across-e.ensures)
