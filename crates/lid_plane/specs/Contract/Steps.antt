-- The plane, corner by corner: what single functions of the code answer, on the way to the definitions of document 01. Definitions only.
use Rattle.std.specs.Prelude.{cond}
use Rattle.std.specs.Float.Ieee.{lt}
use Rattle.float.specs.Number.{halff}
use Rattle.float.specs.Signs.{magnitude, signum}
use Rattle.coords.specs.declared.Point.{Point}
use Rattle.coords_vector.specs.declared.Vector.{Vector}
use Rattle.coords_vector.specs.Vectors.{unit_x, unit_z, plus, scale, dot, cross, normalize_or}
use Rattle.coords.specs.Coords.{diff}
use Rattle.lid.specs.declared.Flat.{Flat}
use Rattle.lid_plane.specs.Plane.{lid_side}

-- `area_normal_step` at the corners p and q of a polygon, the first of which is `first`
abbrev pub area_normal_at : Point → Point → Point → Vector → Vector
area_normal_at first p q sum = plus sum (cross (diff p first) (diff q first))

-- `lid_normal` from the vector area of the tops and the sum of the rises, and `about` from the vector area of the bases
abbrev pub lid_normal_from : Vector → Vector → Vector
lid_normal_from area rise = lid_side (normalize_or area unit_z) (dot (normalize_or area unit_z) rise)

abbrev pub about_from : Vector → Vector → Vector
about_from area lid = scale lid (signum (dot area lid))

abbrev pub axis_across : Vector → Vector
axis_across lid = cond (lt halff (magnitude lid.z)) unit_x unit_z

-- a top as `flatten` has it
abbrev pub flat_on : Point → Vector → Vector → Point → Flat
flat_on first e1 e2 p = record { x = dot (diff p first) e1; y = dot (diff p first) e2 }
