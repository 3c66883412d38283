use Rattle.face.specs.Contract.Drawing.{Draws}
use Rattle.shape.specs.Shapes.{walls}
use Rattle.shape_outline_corners.specs.Contract.Outlines.{corners_of}
use Rattle.shape_outline_walls.proofs.walls.Given as goal

abbrev pub invariant-loop-k : goal.invariant-loop-k
invariant-loop-k l = Draws (walls (corners_of l.row) l.normal l.k) l.initial.canvas l.canvas
