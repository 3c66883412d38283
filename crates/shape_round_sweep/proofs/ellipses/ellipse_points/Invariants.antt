use Rattle.std.proofs.Common.{drop, replicate, ◌++◌, ◌≡◌}
use Rattle.lists.specs.Loops.{list}
use Rattle.angle_circle.specs.Circle.{angle}
use Rattle.angle_circle.proofs.Table.{Tables}
use Rattle.shape.specs.Shapes.{ellipse_point}
use Rattle.shape_round_sweep.proofs.ellipses.ellipse_points.Given as goal

abbrev pub invariant-loop-k : goal.invariant-loop-k
invariant-loop-k l = Tables angle l.cos l.sin × (l.ring ≡ list (ellipse_point l.centre l.across l.up) l.k 0 ++ drop l.k (replicate 16 l.centre))
