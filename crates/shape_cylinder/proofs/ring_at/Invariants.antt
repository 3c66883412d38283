use Rattle.std.proofs.Common.{drop, replicate, ◌++◌, ◌≡◌}
use Rattle.lists.specs.Loops.{list}
use Rattle.angle_circle.specs.Circle.{angle}
use Rattle.angle_circle.proofs.Table.{Tables}
use Rattle.shape.specs.Shapes.{ring_point}
use Rattle.shape_cylinder.proofs.ring_at.Given as goal

abbrev pub invariant-loop-k : goal.invariant-loop-k
invariant-loop-k l = Tables angle l.cos l.sin × (l.ring ≡ list (ring_point l.origin l.turn l.radius l.z) l.k 0 ++ drop l.k (replicate 16 l.origin))
