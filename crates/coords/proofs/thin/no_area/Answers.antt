use Rattle.coords.specs.Coords.{no_area}
use Rattle.coords.proofs.thin.no_area.Goals as goal

pub returns : goal.returns
unfolding no_area
returns c = rw (c.shorter_than.ensures, c.cross.ensures, c.sub-2.ensures, c.sub.ensures)
