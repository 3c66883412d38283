-- The axes of a box, as the program names them, and its faces across one. Definitions only.
use Rattle.std.specs.Prelude.{ℕ, List, Float}
use Rattle.shape_box.specs.declared.Axis.{Axis as ProgramAxis}
use Rattle.shape_box.specs.declared.Axis.TheVariants.{X, Y, Z}
use Rattle.shape_box.specs.declared.Placed.{Placed}
use Rattle.shape.specs.Shapes.{Axis, along_x, along_y, along_z}
use Rattle.shape.specs.Contract.Stages.{PartRun, side_stages}

-- the axis that the program's enum names
unfoldable pub axis_of : ProgramAxis → Axis
axis_of X = along_x
axis_of Y = along_y
axis_of Z = along_z

-- how deep a placed box is along an axis
unfoldable pub depth_along : Placed → ProgramAxis → Float
depth_along b X = b.length
depth_along b Y = b.width
depth_along b Z = b.height

-- the part of the face along an axis; the one against it has the next number
unfoldable pub part_along : ProgramAxis → ℕ
part_along X = 11
part_along Y = 13
part_along Z = 15

-- the faces of a placed box across an axis
abbrev pub sides_of : Placed → ProgramAxis → List PartRun
sides_of b axis = side_stages b.origin b.turn b.length b.width b.height (axis_of axis) (depth_along b axis) (part_along axis)
