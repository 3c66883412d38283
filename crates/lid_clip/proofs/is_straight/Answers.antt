use Rattle.lid.specs.Clipping.{is_straight}
use Rattle.lid.specs.Rings.{turn_of}
use Rattle.lid_clip.proofs.is_straight.Goals as goal

pub returns : goal.returns
unfolding is_straight turn_of
returns c = rw (c.abs.ensures, c.turn.ensures, c.at-a.ensures, c.at-b.ensures, c.at-c.ensures, c.corners_at-t.ensures)
