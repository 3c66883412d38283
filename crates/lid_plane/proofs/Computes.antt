-- To compute with this crate's definitions, name `computes` on an `unfolding` line: it stands for all of them.
use Rattle.lid_plane.specs.Plane.{tops_of, bases_of, area_normal, rise, lid_side, lid_normal, about, first_axis, flatten}

unfoldable pub computes : Unit {0}
unfolding tops_of bases_of area_normal rise lid_side lid_normal about first_axis flatten
computes = tt
