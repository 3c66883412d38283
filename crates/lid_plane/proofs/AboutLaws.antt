-- Which way a ring runs about the lid's normal, from what a caller's loop over the corners gives. Assumes nothing.
use mathlib.Core.Path.{◌≡◌, refl}
use mathlib.Core.List.{List}
use Rattle.coords_vector.specs.declared.Vector.{Vector}
use Rattle.object.specs.declared.Corner.{Corner}
use Rattle.lid_plane.specs.Plane.{area_normal, bases_of, about}
use Rattle.lid_plane.specs.Contract.Steps.{about_from}

pub about_from_lem : (cs : List Corner) (lid : Vector) → about_from (area_normal (bases_of cs)) lid ≡ about cs lid
unfolding about
about_from_lem cs lid = refl
