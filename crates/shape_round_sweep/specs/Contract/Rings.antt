-- An ellipse of the code is one of crates/shape/specs/Shapes.antt. Definitions only.
use Rattle.shape.specs.Shapes as shapes
use Rattle.shape_round_sweep.specs.declared.ellipses.Ellipse.{Ellipse}

abbrev pub ellipse_of : Ellipse → shapes.Ellipse
ellipse_of e = record { centre = e.centre; ring = e.ring }
