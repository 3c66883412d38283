-- An outline where it lies in the scene's bytes: its points, 24 bytes apart, the bases from the corners' place on and the tops 12 bytes behind them. Definitions only.
use Rattle.std.specs.Prelude.{◌≡◌, Bool, ℕ, ◌+◌, ◌*◌, ◌≤◌, List, length}
use Rattle.lists.specs.Loops.{list}
use Rattle.coords.specs.declared.Point.{Point}
use Rattle.coords_vector.specs.declared.Vector.{Vector}
use Rattle.coords_vector.specs.Vectors.{cross}
use Rattle.coords.specs.Coords.{diff}
use Rattle.object.specs.declared.Corner.{Corner}
use Rattle.object.specs.Object.{Shape, outline}
use Rattle.scene_field.specs.Fields.{point_at, counts_at, corners_at, holes_at}
use Rattle.scene.specs.Contract.Headers.{CornersCounted}
use Rattle.face.specs.Faces.{Triangle, Face, quad}
use Rattle.lid_plane.specs.Plane.{lid_normal}
use Rattle.lid.specs.Lid.{Lid}
use Rattle.shape.specs.Shapes.{outline_lid}
use Rattle.shape_outline_corners.specs.declared.OutlineAt.{OutlineAt}
use Rattle.shape_outline_corners.specs.declared.Row.{Row}

-- n points, 24 bytes apart, from place `at` on
unfoldable pub points_at : List ℕ → ℕ → ℕ → List Point
points_at s n at = list (λ k. point_at s (at + 24 * k)) n 0

-- n corners from `at` on lie in the bytes
abbrev pub CornersIn : List ℕ → ℕ → ℕ → Type 0
CornersIn s at n = at + 24 * n ≤ length s

-- n points, 24 bytes apart and 12 bytes each, from `at` on lie in the bytes
abbrev pub PointsIn : List ℕ → ℕ → ℕ → Type 0
PointsIn s at n = at + 24 * n ≤ length s + 12

-- a row of corners that lie in the bytes, and a row of points; the corners, and the points
abbrev pub HoldsCorners : Row → Type 0
HoldsCorners r = CornersIn r.s.now r.at r.n

abbrev pub HoldsPoints : Row → Type 0
HoldsPoints r = PointsIn r.s.now r.at r.n

abbrev pub corners_of : Row → List Corner
corners_of r = corners_at r.s.now r.n r.at

abbrev pub points_of : Row → List Point
points_of r = points_at r.s.now r.n r.at

-- a face by its parts
abbrev pub face_at : ℕ → List Point → List Triangle → Vector → Face
face_at part points triangles out = record { points = points; triangles = triangles; out = out; part = part }

-- the wall from a corner to the next
abbrev pub wall_between : Corner → Corner → Vector → Face
wall_between a b normal = quad 1 a.base b.base b.top a.top (cross (diff b.base a.base) normal)

-- In what follows the counts of an outline are at place i, behind its record's kind and id: its corners are behind the counts of its holes.

-- where its corners start
abbrev pub corners_place : ℕ → ℕ → ℕ
corners_place i holes = i + 4 + 2 * holes

-- the outline, and the lid that is cut over its corners
abbrev pub outline_shape : List ℕ → ℕ → Bool → ℕ → ℕ → Shape
outline_shape s i closed outer holes = outline closed (corners_at s outer (corners_place i holes)) (holes_at s (counts_at s holes (i + 4)) (corners_place i holes + 24 * outer))

abbrev pub lid_at : List ℕ → ℕ → ℕ → ℕ → Lid
lid_at s i outer holes = outline_lid (corners_at s outer (corners_place i holes)) (holes_at s (counts_at s holes (i + 4)) (corners_place i holes + 24 * outer))

-- its n corners are counted, within the limits of document 01, section 1, and lie in the bytes
pub record Placed (s : List ℕ) (i outer holes n : ℕ) : Type 0 where
  pub counted : CornersCounted s i outer holes n
  pub inside : CornersIn s (corners_place i holes) n

-- what the code has worked out of it
pub record OutlineHolds (s : List ℕ) (o : OutlineAt) : Type 0 where
  pub placed : Placed s o.i o.outer o.holes o.n
  pub place : o.at ≡ corners_place o.i o.holes
  pub normal : o.lid ≡ lid_normal (corners_at s o.outer o.at)

-- all corners of the outline that the code has worked out, and its lid
abbrev pub all_in : List ℕ → OutlineAt → List Corner
all_in s o = corners_at s o.n o.at

abbrev pub lid_in : List ℕ → OutlineAt → Lid
lid_in s o = lid_at s o.i o.outer o.holes
