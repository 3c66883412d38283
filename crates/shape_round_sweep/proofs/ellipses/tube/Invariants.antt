use Rattle.lists.specs.Loops.{list}
use Rattle.face.specs.Contract.Drawing.{Draws}
use Rattle.shape.specs.Shapes.{tube_side}
use Rattle.shape_round_sweep.specs.Contract.Rings.{ellipse_of}
use Rattle.shape_round_sweep.proofs.ellipses.tube.Given as goal

abbrev pub invariant-loop-k : goal.invariant-loop-k
invariant-loop-k l = Draws (list (tube_side (ellipse_of l.a) (ellipse_of l.b)) l.k 0) l.initial.canvas l.canvas
