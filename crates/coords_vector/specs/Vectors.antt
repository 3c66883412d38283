-- Document 01, section 3, and `coords.rs`: vectors, each operation rounded once, in the order of the Rust.
use Rattle.std.specs.Prelude.{◌&&◌, cond, Float}
use Rattle.std.specs.Float.Ieee.{neg, lt}
use Rattle.float.specs.Number.{◌+f◌, ◌-f◌, ◌*f◌, ◌/f◌, zerof, onef, sqrt, is_finite}
use Rattle.coords_vector.specs.declared.Vector.{Vector}

abbrev pub vector : Float → Float → Float → Vector
vector a b c = record { x = a; y = b; z = c }

abbrev pub zero_v : Vector
zero_v = vector zerof zerof zerof

abbrev pub unit_x : Vector
unit_x = vector onef zerof zerof

abbrev pub unit_z : Vector
unit_z = vector zerof zerof onef

unfoldable pub plus : Vector → Vector → Vector
plus a b = vector (a.x +f b.x) (a.y +f b.y) (a.z +f b.z)

unfoldable pub less : Vector → Vector → Vector
less a b = vector (a.x -f b.x) (a.y -f b.y) (a.z -f b.z)

unfoldable pub scale : Vector → Float → Vector
scale a k = vector (a.x *f k) (a.y *f k) (a.z *f k)

unfoldable pub negate : Vector → Vector
negate a = vector (neg a.x) (neg a.y) (neg a.z)

unfoldable pub dot : Vector → Vector → Float
dot a b = a.x *f b.x +f a.y *f b.y +f a.z *f b.z

unfoldable pub cross : Vector → Vector → Vector
cross a b = vector (a.y *f b.z -f a.z *f b.y) (a.z *f b.x -f a.x *f b.z) (a.x *f b.y -f a.y *f b.x)

-- `length` of the Rust
unfoldable pub norm : Vector → Float
norm a = sqrt (dot a a)

-- normalize_or: the quotient 1 / len and each product rounded once
unfoldable pub normalize_or : Vector → Vector → Vector
normalize_or a fallback = let len = norm a in cond (is_finite len && lt zerof len) (scale a (onef /f len)) fallback
