-- To compute with this crate's definitions, name `computes` on an `unfolding` line: it stands for all of them, and for the operations of lib.Ieee that they use.
use lib.Ieee.{of_int, round}
use Rattle.angle_circle.specs.Circle.{angle, side_angle, falling, term, terms, nearest_diff, sine, cosine}

unfoldable pub computes : Unit {0}
unfolding of_int round angle side_angle falling term terms nearest_diff sine cosine
computes = tt
