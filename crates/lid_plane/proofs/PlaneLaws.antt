-- The normal of a lid from what a caller's loops over the corners give. Assumes nothing.
use mathlib.Core.Path.{◌≡◌, refl}
use mathlib.Core.List.{List}
use Rattle.object.specs.declared.Corner.{Corner}
use Rattle.lid_plane.specs.Plane.{area_normal, tops_of, rise, lid_normal}
use Rattle.lid_plane.specs.Contract.Steps.{lid_normal_from}

pub normal_from_lem : (cs : List Corner) → lid_normal_from (area_normal (tops_of cs)) (rise cs) ≡ lid_normal cs
unfolding lid_normal
normal_from_lem cs = refl
