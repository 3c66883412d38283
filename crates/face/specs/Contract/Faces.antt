-- Faces whose triangles name their own points.
use Rattle.std.specs.Prelude.{length}
use Rattle.lists.specs.Each.{Each}
pub use Rattle.face_triangle.specs.Contract.Triangles.{TriangleLow}
use Rattle.face.specs.Faces.{Face}

-- the corner numbers of its triangles are numbers of its points
abbrev pub FaceLow : Face → Type 0
FaceLow f = Each (TriangleLow (length f.points)) f.triangles
