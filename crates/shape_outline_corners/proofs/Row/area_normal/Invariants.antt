use Rattle.std.proofs.Common.{◌*◌, ◌+◌, ◌-◌, ◌<◌, ◌≡◌, ◌≤◌}
use Rattle.scene_field.specs.Fields.{point_at}
use Rattle.lid_plane.specs.Plane.{area_normal_step, area_normal}
use Rattle.lists.specs.Loops.{loop}
use Rattle.shape_outline_corners.specs.Contract.Outlines.{points_at}
use Rattle.shape_outline_corners.proofs.Row.area_normal.Given as goal

abbrev pub invariant-loop-k : goal.invariant-loop-k
invariant-loop-k l = (l.k ≤ l.self.n) × (loop (area_normal_step (points_at l.self.s.now l.self.n l.self.at)) (l.self.n - l.k) l.k l.sum ≡ area_normal (points_at l.self.s.now l.self.n l.self.at)) × (l.k < l.self.n → l.p ≡ point_at l.self.s.now (l.self.at + 24 * l.k))
