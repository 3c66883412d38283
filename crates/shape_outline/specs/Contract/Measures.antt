-- What the code works out of an outline before it draws, and its walls. Definitions only.
use Rattle.std.specs.Prelude.{Bool, false, cond, ℕ, ◌+◌, ◌*◌, List, ◌++◌}
use Rattle.lists.specs.Loops.{join}
use Rattle.scene_field.specs.Fields.{corners_at, counts_at, holes_at}
use Rattle.face.specs.Faces.{Face}
use Rattle.lid_plane.specs.Plane.{lid_normal}
use Rattle.shape.specs.Shapes.{outer_walls, hole_walls, has_height}
use Rattle.shape_outline_corners.specs.declared.OutlineAt.{OutlineAt}
use Rattle.shape_outline_corners.specs.Contract.Outlines.{corners_place}

-- the outline whose counts are at i, n corners in all; only a closed one is asked for its height
abbrev pub outline_in : List ℕ → ℕ → Bool → ℕ → ℕ → ℕ → OutlineAt
outline_in s i closed outer holes n = record {
  i = i;
  at = corners_place i holes;
  outer = outer;
  holes = holes;
  n = n;
  lid = lid_normal (corners_at s outer (corners_place i holes));
  high = cond closed (has_height (corners_at s n (corners_place i holes))) false;
}

-- the walls of an outline so worked out: the outer ones, then the holes'
abbrev pub walls_in : List ℕ → Bool → OutlineAt → List Face
walls_in s closed o =
    outer_walls closed (corners_at s o.outer o.at) o.lid
    ++ join (hole_walls o.lid) (holes_at s (counts_at s o.holes (o.i + 4)) (o.at + 24 * o.outer))
