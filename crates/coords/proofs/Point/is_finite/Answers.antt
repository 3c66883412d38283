use Rattle.coords.specs.Coords.{finite_point}
use Rattle.coords.proofs.Point.is_finite.Goals as goal

pub returns : goal.returns
unfolding finite_point
returns c = rw (c.is_finite.ensures, c.is_finite-2.ensures, c.is_finite-3.ensures)
