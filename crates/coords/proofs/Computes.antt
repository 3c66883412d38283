-- To compute with this crate's definitions, name `computes` on an `unfolding` line: it stands for all of them, and for the operations of lib.Ieee that they use.
use lib.Ieee.{neg, lt, le, eq}
use Rattle.coords_vector.specs.Vectors.{plus, less, scale, negate, dot, cross, norm, normalize_or}
use Rattle.coords.specs.Coords.{diff, moved, lerp, same_point, finite_point, no_area, allowed_limit}
use Rattle.coords.specs.Buffers.{vertex_numbers, normal_numbers, vertices_in}

unfoldable pub computes : Unit {0}
unfolding neg lt le eq diff moved plus less scale negate dot cross norm normalize_or lerp same_point finite_point no_area allowed_limit vertex_numbers normal_numbers vertices_in
computes = tt
