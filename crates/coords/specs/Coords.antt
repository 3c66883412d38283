-- Document 01, section 3, and `coords.rs`: points, each operation rounded once, in the order of the Rust. Document 02, request 2: the thin limits that a call
-- may name.
use Rattle.std.specs.Prelude.{Bool, ◌&&◌, Float}
use Rattle.std.specs.Float.Ieee.{lt, le, eq}
use Rattle.float.specs.Number.{◌+f◌, ◌-f◌, zerof, onef, min_area, is_finite}
use Rattle.coords_vector.specs.declared.Vector.{Vector}
use Rattle.coords_vector.specs.Vectors.{vector, scale, cross, norm}
use Rattle.coords.specs.declared.Point.{Point}

abbrev pub point : Float → Float → Float → Point
point a b c = record { x = a; y = b; z = c }

abbrev pub origin : Point
origin = point zerof zerof zerof

-- a - b, of two points
unfoldable pub diff : Point → Point → Vector
diff a b = vector (a.x -f b.x) (a.y -f b.y) (a.z -f b.z)

-- a point and a vector
unfoldable pub moved : Point → Vector → Point
moved a v = point (a.x +f v.x) (a.y +f v.y) (a.z +f v.z)

unfoldable pub lerp : Point → Point → Float → Point
lerp a b t = moved a (scale (diff b a) t)

-- `==` of two points, by value: -0.0 equals +0.0
unfoldable pub same_point : Point → Point → Bool
same_point a b = eq a.x b.x && eq a.y b.y && eq a.z b.z

unfoldable pub finite_point : Point → Bool
finite_point a = is_finite a.x && is_finite a.y && is_finite a.z

-- twice a triangle's area is below the limit
unfoldable pub no_area : Float → Point → Point → Point → Bool
no_area limit a b c = lt (norm (cross (diff b a) (diff c a))) limit

-- a limit that a call may name: from 1e-6 up to 1; a NaN is none
unfoldable pub allowed_limit : Float → Bool
allowed_limit limit = le min_area limit && le limit onef
