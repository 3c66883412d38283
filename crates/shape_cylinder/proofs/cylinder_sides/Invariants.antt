use Rattle.face.specs.Contract.Drawing.{Draws}
use Rattle.lists.specs.Loops.{list}
use Rattle.angle_circle.specs.Circle.{side_angle}
use Rattle.angle_circle.proofs.Table.{Tables}
use Rattle.shape.specs.Shapes.{cylinder_side}
use Rattle.shape_cylinder.proofs.cylinder_sides.Given as goal

abbrev pub invariant-loop-k : goal.invariant-loop-k
invariant-loop-k l = Tables side_angle l.cos l.sin × Draws (list (cylinder_side l.turn l.bottom l.top) l.k 0) l.initial.canvas l.canvas
