use Rattle.lid_plane.specs.Plane.{lid_side}
use Rattle.lid_plane.proofs.normal.lid_normal_from.Goals as goal

pub returns-then-abs : goal.returns-then-abs
unfolding lid_side
returns-then-abs c = rw (← c.normalize_or-n.ensures, ← c.dot-away.ensures, ← c.abs.ensures, c.if-abs.true, c.mul.ensures, c.signum.ensures)

pub returns-then-n : goal.returns-then-n
unfolding lid_side
returns-then-n c = rw (← c.normalize_or-n.ensures, ← c.dot-away.ensures, ← c.abs.ensures, c.if-abs.false, c.if-n.true, c.neg.ensures)

pub returns : goal.returns
unfolding lid_side
returns c = rw (← c.normalize_or-n.ensures, ← c.dot-away.ensures, ← c.abs.ensures, c.if-abs.false, c.if-n.false)
