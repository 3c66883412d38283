use Rattle.std.proofs.Common.{◌*◌, ◌+◌, ◌-◌, ◌<◌, ◌≡◌, ◌≤◌}
use Rattle.lists.specs.Loops.{list, loop, fold}
use Rattle.scene_field.specs.Fields.{corner_at, corners_at}
use Rattle.lid_plane.specs.Plane.{area_normal_step, area_normal, rise_step, rise}
use Rattle.shape_outline_corners.specs.Contract.Outlines.{points_at}
use Rattle.shape_outline_corners.proofs.Row.lid_normal.Given as goal

abbrev pub invariant-loop-k : goal.invariant-loop-k
invariant-loop-k l = (l.k ≤ l.self.n) × (loop (area_normal_step (points_at l.self.s.now l.self.n (l.self.at + 12))) (l.self.n - l.k) l.k l.area ≡ area_normal (points_at l.self.s.now l.self.n (l.self.at + 12))) × (fold rise_step l.rise (list (λ j. corner_at l.self.s.now (l.self.at + 24 * j)) (l.self.n - l.k) l.k) ≡ rise (corners_at l.self.s.now l.self.n l.self.at)) × (l.k < l.self.n → l.a ≡ corner_at l.self.s.now (l.self.at + 24 * l.k))
