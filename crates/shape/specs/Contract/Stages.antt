-- The faces of a shape part by part, empty parts included, in the order in which they are drawn: a box's six faces, and of every other shape walls or sides,
-- lid, floor, caps and two that are always empty. proofs/Stages shows that these are its faces, each of its stage's part. Definitions only.
use Rattle.std.specs.Prelude.{◌≡◌, ℕ, ◌+◌, Bool, cond, List, [], ◌∷◌, ◌++◌, map, get_or, Float}
use Rattle.std.specs.Float.Ieee.{lt, eq}
use Rattle.lists.specs.Loops.{list, join}
use Rattle.float.specs.Number.{zerof, onef}
use Rattle.coords.specs.declared.Point.{Point}
use Rattle.coords_vector.specs.declared.Vector.{Vector}
use Rattle.coords_vector.specs.Vectors.{negate}
use Rattle.object.specs.declared.Corner.{Corner}
use Rattle.object.specs.declared.Extent.{Extent}
use Rattle.object.specs.declared.Extent.TheVariants.{Box, Cylinder, Unsized}
use Rattle.object.specs.declared.Section.{Section}
use Rattle.object.specs.declared.Orientation.{Orientation}
use Rattle.object.specs.Object.{frame, Shape, solid, outline, sweep, round_sweep}
use Rattle.face.specs.declared.Tally.{Tally}
use Rattle.face.specs.Faces.{Triangle, Face}
use Rattle.face.specs.declared.Canvas.{Canvas}
use Rattle.face.specs.Contract.Drawing.{tally, Drawing, counted, Drew, drawing_on, SameLoans}
use Rattle.lid_plane.specs.Plane.{tops_of, bases_of, lid_normal}
use Rattle.shape.specs.Shapes.{Axis, along_x, along_y, along_z, on_axis, box_face, ring_at, cylinder_side, end_face, outer_walls, hole_walls, all_corners, outline_lid, has_height, pairs, pair_faces, sweep_caps, ellipse, tube_faces, tube_caps}

-- faces of one part
pub record PartRun : Type 0 where
  pub part : ℕ
  pub faces : List Face

abbrev pub stage : ℕ → List Face → PartRun
stage part faces = record { part = part; faces = faces }

-- ---- of each shape

-- across an axis: the + face, and the - face unless the box has no depth along it
unfoldable pub side_stages : Point → Orientation → Float → Float → Float → Axis → Float → ℕ → List PartRun
side_stages o t l w h axis depth part =
    let out = on_axis axis onef zerof zerof (frame t) in
    stage part (box_face o t l w h axis onef out part ∷ []) ∷ stage (part + 1) (cond (eq depth zerof) [] (box_face o t l w h axis zerof (negate out) (part + 1) ∷ [])) ∷ []

unfoldable pub box_stages : Point → Orientation → Float → Float → Float → List PartRun
box_stages o t l w h = side_stages o t l w h along_x l 11 ++ side_stages o t l w h along_y w 13 ++ side_stages o t l w h along_z h 15

abbrev pub four_stages : List Face → List Face → List Face → List Face → List PartRun
four_stages sides lid floor caps = stage 1 sides ∷ stage 2 lid ∷ stage 3 floor ∷ stage 4 caps ∷ stage 5 [] ∷ stage 6 [] ∷ []

-- 2 is the end at the cylinder's height
unfoldable pub cylinder_stages : Orientation → List Point → List Point → Float → List PartRun
cylinder_stages t bottom top h =
    let up = frame t zerof zerof onef in
    four_stages (list (cylinder_side t bottom top) 16 0) (end_face top up 2 ∷ []) (cond (lt zerof h) (end_face bottom (negate up) 3 ∷ []) []) []

unfoldable pub solid_stages : Point → Orientation → Extent → List PartRun
solid_stages o t (Box l w h) = box_stages o t l w h
solid_stages o t (Cylinder r h) = cylinder_stages t (ring_at o t r zerof) (ring_at o t r h) h
solid_stages o t Unsized = four_stages [] [] [] []

-- the lid over the tops, and the floor under the bases unless every base is its top
unfoldable pub lid_face : List Corner → Vector → List Triangle → Face
lid_face cs lid ts = record { points = tops_of cs; triangles = ts; out = lid; part = 2 }

unfoldable pub floor_faces : List Corner → Vector → List Triangle → List Face
floor_faces cs lid ts = cond (has_height cs) (record { points = bases_of cs; triangles = ts; out = negate lid; part = 3 } ∷ []) []

abbrev pub lid_stages : List Corner → Vector → List Triangle → List PartRun
lid_stages cs lid ts = stage 2 (lid_face cs lid ts ∷ []) ∷ stage 3 (floor_faces cs lid ts) ∷ []

unfoldable pub outline_stages : Bool → List Corner → List (List Corner) → List PartRun
outline_stages closed cs holes =
    let lid = lid_normal cs in
    let all = all_corners cs holes in
    let ts = (outline_lid cs holes).triangles in
    four_stages (outer_walls closed cs lid ++ join (hole_walls lid) holes) (cond closed (lid_face all lid ts ∷ []) []) (cond closed (floor_faces all lid ts) []) []

-- the pairs, and the caps
unfoldable pub sweep_stages : List Section → List PartRun
sweep_stages ss = four_stages (pairs pair_faces ss) [] [] (sweep_caps ss)

unfoldable pub round_stages : List Section → List PartRun
round_stages ss = let es = map ellipse ss in four_stages (pairs tube_faces es) [] [] (tube_caps es)

unfoldable pub stages_of : Shape → List PartRun
stages_of (solid o t x) = solid_stages o t x
stages_of (outline closed cs holes) = outline_stages closed cs holes
stages_of (sweep ss) = sweep_stages ss
stages_of (round_sweep ss) = round_stages ss

-- the part of the first stage
abbrev pub first_of : Extent → ℕ
first_of (Box l w h) = 11
first_of (Cylinder r h) = 1
first_of Unsized = 1

abbrev pub first_part : Shape → ℕ
first_part (solid o t x) = first_of x
first_part (outline closed cs holes) = 1
first_part (sweep ss) = 1
first_part (round_sweep ss) = 1

-- ---- drawn one behind the other

-- the counts after each stage, t being those before the first and `before` vertices lying before the buffers
unfoldable pub tallies_of : Float → ℕ → Tally → List PartRun → List Tally
tallies_of limit before t [] = []
tallies_of limit before t (s ∷ ss) = let u = counted limit (before + t.vertices) s.faces t in u ∷ tallies_of limit before u ss

-- drawing the stages took the buffers and the counts from d to d', with these counts after each
pub record DrewStages (limit : Float) (stages : List PartRun) (before : ℕ) (d d' : Drawing) (tallies : List Tally) : Type 0 where
  pub drew : Drew limit (join PartRun.faces stages) before d d'
  pub after : tallies ≡ tallies_of limit before d.tally stages

-- the counts after the last of six
abbrev pub last_of : List Tally → Tally
last_of after = get_or after 5 (tally 0 0 0)

-- the stages were drawn on the canvas, which was c and is c', with these counts after each
pub record DrawsStages (stages : List PartRun) (tallies : List Tally) (c c' : Canvas) : Type 0 where
  pub drew : DrewStages c.limit stages c.before (drawing_on c) (drawing_on c') tallies
  pub same : SameLoans c c'

-- two stages, with counts u after the first
abbrev pub DrawsTwo : List PartRun → Tally → Canvas → Canvas → Type 0
DrawsTwo stages u c c' = DrawsStages stages (u ∷ c'.tally ∷ []) c c'
