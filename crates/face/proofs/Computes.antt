-- To compute with this crate's definitions, name `computes` on an `unfolding` line: it stands for all of them, and for the operations of lib.Ieee that they use.
use lib.Ieee.{lt}
use Rattle.face.specs.Faces.{fan, quad, normal, is_thin, is_turned, facing, thin_in, kept_from, kept_of, add_normal, normal_from, face_normal, nothing, behind, numbered, write_kept, write_face, write_faces}
use Rattle.face_triangle.specs.Contract.Triangles.{triangles_in}
use Rattle.face.specs.Contract.Drawing.{counted, drawn}

unfoldable pub computes : Unit {0}
unfolding lt fan quad normal is_thin is_turned facing thin_in kept_from kept_of add_normal normal_from face_normal nothing behind numbered write_kept write_face write_faces triangles_in counted drawn
computes = tt
