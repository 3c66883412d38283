use Rattle.std.proofs.Common.{length, ◌*◌, ◌+◌, ◌-◌, ◌≡◌, ◌≤◌}
use lib.Seq.{sets}
use Rattle.coords.specs.Buffers.{vertex_record, vertex_numbers}
use Rattle.lists.specs.Loops.{list, join}
use Rattle.scene_field.specs.Fields.{point_at}
use Rattle.shape_outline_corners.specs.Contract.Outlines.{points_at}
use Rattle.shape_outline_lid.proofs.faces.put_points.Given as goal

abbrev pub invariant-loop-k : goal.invariant-loop-k
invariant-loop-k l = (l.k ≤ l.n) × (length l.points ≡ length l.initial.points) × (sets l.points (3 * (0 + l.k)) (join vertex_record (list (λ j. point_at l.s (l.at + 24 * j)) (l.n - l.k) l.k)) ≡ sets l.initial.points 0 (vertex_numbers (points_at l.s l.n l.at)))
