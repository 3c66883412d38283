use Rattle.std.proofs.Common.{◌*◌, ◌+◌, ◌≡◌}
use Rattle.face.specs.Contract.Drawing.{Draws}
use Rattle.lists.specs.Loops.{join}
use Rattle.scene_field.specs.Fields.{counts_at}
use Rattle.shape.specs.Shapes.{hole_walls}
use Rattle.shape_outline_walls.proofs.HoleWallLaws.{corners_in, first_holes}
use Rattle.shape_outline_walls.proofs.holes.hole_walls.Given as goal

abbrev pub invariant-loop-k : goal.invariant-loop-k
invariant-loop-k l = (l.place ≡ l.at + 24 * corners_in (counts_at l.s l.k l.counts)) × Draws (join (hole_walls l.lid) (first_holes l.s l.counts l.at l.lid l.k)) l.initial.canvas l.canvas
