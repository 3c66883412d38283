-- A triangle is read back from its numbers. Assumes nothing.
use mathlib.Core.Path.{◌≡◌, refl}
use Rattle.face_triangle.specs.Triangles.{Triangle}
use Rattle.face_triangle.specs.Contract.Triangles.{triangle_record, triangle_at}

pub triangle_back : (t : Triangle) → triangle_at (triangle_record t) 0 ≡ t
triangle_back t = refl
