-- Document 01, section 5: the faces of each shape, in the Rust's order.
use Rattle.std.specs.Prelude.{ℕ, ◌+◌, ◌-◌, Bool, true, false, not, ◌&&◌, cond, List, [], ◌∷◌, ◌++◌, map, length, get_or, Float}
use Rattle.std.specs.Float.Ieee.{neg, lt, eq}
use Rattle.lists.specs.Loops.{list, join, some, next}
use Rattle.float.specs.Number.{◌-f◌, ◌*f◌, zerof, onef, halff}
use Rattle.coords.specs.declared.Point.{Point}
use Rattle.coords_vector.specs.declared.Vector.{Vector}
use Rattle.coords_vector.specs.Vectors.{vector, zero_v, unit_z, plus, scale, negate, cross}
use Rattle.coords.specs.Coords.{origin, diff, moved, lerp, same_point}
use Rattle.angle_circle.specs.Circle.{angle, side_angle, sine, cosine}
use Rattle.object.specs.declared.Corner.{Corner}
use Rattle.object.specs.declared.Extent.{Extent}
use Rattle.object.specs.declared.Extent.TheVariants.{Box, Cylinder, Unsized}
use Rattle.object.specs.declared.Section.{Section}
use Rattle.object.specs.declared.Orientation.{Orientation}
use Rattle.object.specs.Object.{frame, Shape, solid, outline, sweep, round_sweep}
use Rattle.face.specs.Faces.{Triangle, Face, fan, quad}
use Rattle.lid.specs.declared.Flat.{Flat}
use Rattle.lid_plane.specs.Plane.{tops_of, bases_of, lid_normal, about, flatten}
use Rattle.lid.specs.Log.{Entry}
use Rattle.lid.specs.Lid.{Lid, lid_of}

-- ---- solids

pub data Axis : Type 0 where
  along_x along_y along_z : Axis

-- f at the three coordinates in order, s being that of the axis, p and q those of the two axes after it, going round
unfoldable pub on_axis : {A : Type 0} → Axis → Float → Float → Float → (Float → Float → Float → A) → A
on_axis along_x s p q f = f s p q
on_axis along_y s p q f = f q s p
on_axis along_z s p q f = f p q s

-- a corner of the box: 0 or 1 along each axis, centred across and rising up
unfoldable pub box_point : Point → Orientation → Float → Float → Float → Float → Float → Float → Point
box_point o t l w h a b c = moved o (frame t ((a -f halff) *f l) ((b -f halff) *f w) (c *f h))

unfoldable pub box_face : Point → Orientation → Float → Float → Float → Axis → Float → Vector → ℕ → Face
box_face o t l w h axis side out part =
    quad part
    (on_axis axis side zerof zerof (box_point o t l w h))
    (on_axis axis side onef zerof (box_point o t l w h))
    (on_axis axis side onef onef (box_point o t l w h))
    (on_axis axis side zerof onef (box_point o t l w h))
    out

-- the + face, then the - face unless the box has no depth along the axis
unfoldable pub box_sides : Point → Orientation → Float → Float → Float → Axis → Float → ℕ → List Face
box_sides o t l w h axis depth part =
    let out = on_axis axis onef zerof zerof (frame t) in
    box_face o t l w h axis onef out part ∷ cond (eq depth zerof) [] (box_face o t l w h axis zerof (negate out) (part + 1) ∷ [])

unfoldable pub box : Point → Orientation → Float → Float → Float → List Face
box o t l w h = box_sides o t l w h along_x l 11 ++ box_sides o t l w h along_y w 13 ++ box_sides o t l w h along_z h 15

-- the sixteen ring points of a cylinder's end at height z
unfoldable pub ring_point : Point → Orientation → Float → Float → ℕ → Point
ring_point o t r z k = moved o (frame t (r *f cosine (angle k)) (r *f sine (angle k)) z)

unfoldable pub ring_at : Point → Orientation → Float → Float → List Point
ring_at o t r z = list (ring_point o t r z) 16 0

-- side k, from ring point k to the next
unfoldable pub cylinder_side : Orientation → List Point → List Point → ℕ → Face
cylinder_side t bottom top k =
    quad 1 (get_or bottom k origin) (get_or bottom (next 16 k) origin) (get_or top (next 16 k) origin) (get_or top k origin)
    (frame t (cosine (side_angle k)) (sine (side_angle k)) zerof)

unfoldable pub end_face : List Point → Vector → ℕ → Face
end_face ring out part = record { points = ring; triangles = fan 16; out = out; part = part }

unfoldable pub cylinder_faces : Orientation → List Point → List Point → Float → List Face
cylinder_faces t bottom top h =
    let up = frame t zerof zerof onef in
    list (cylinder_side t bottom top) 16 0 ++ (end_face top up 2 ∷ cond (lt zerof h) (end_face bottom (negate up) 3 ∷ []) [])

unfoldable pub cylinder : Point → Orientation → Float → Float → List Face
cylinder o t r h = cylinder_faces t (ring_at o t r zerof) (ring_at o t r h) h

unfoldable pub solid_faces : Point → Orientation → Extent → List Face
solid_faces o t (Box l w h) = box o t l w h
solid_faces o t (Cylinder r h) = cylinder o t r h
solid_faces o t Unsized = []

-- ---- outlines

abbrev pub corner0 : Corner
corner0 = record { base = origin; top = origin }

-- the wall from corner i to the next of n
unfoldable pub wall : List Corner → Vector → ℕ → Face
wall cs normal i =
    let a = get_or cs i corner0 in
    let b = get_or cs (next (length cs) i) corner0 in
    quad 1 a.base b.base b.top a.top (cross (diff b.base a.base) normal)

unfoldable pub walls : List Corner → Vector → ℕ → List Face
walls cs normal edges = list (wall cs normal) edges 0

unfoldable pub outer_walls : Bool → List Corner → Vector → List Face
outer_walls true cs lid = walls cs (about cs lid) (length cs)
outer_walls false cs lid = walls cs zero_v (length cs - 1)

unfoldable pub hole_walls : Vector → List Corner → List Face
hole_walls lid cs = walls cs (negate (about cs lid)) (length cs)

-- the outer corners and then the holes'
unfoldable pub all_corners : List Corner → List (List Corner) → List Corner
all_corners cs holes = cs ++ join (λ h. h) holes

-- the flat corners on which the lid is cut, and the lid
unfoldable pub flat_of : List Corner → List (List Corner) → List Flat
flat_of cs holes = flatten (lid_normal cs) (tops_of (all_corners cs holes))

unfoldable pub outline_lid : List Corner → List (List Corner) → Lid
outline_lid cs holes = lid_of (flat_of cs holes) (length cs) (map length holes)

-- some base differs from its top
unfoldable pub has_height : List Corner → Bool
has_height cs = some (λ (c : Corner). not (same_point c.base c.top)) cs

-- the lid over the tops and, unless every base is its top, the floor under the bases
unfoldable pub lid_faces : List Corner → Vector → List Triangle → List Face
lid_faces cs lid ts =
    record { points = tops_of cs; triangles = ts; out = lid; part = 2 }
    ∷ cond (has_height cs) (record { points = bases_of cs; triangles = ts; out = negate lid; part = 3 } ∷ []) []

unfoldable pub outline_faces : Bool → List Corner → List (List Corner) → List Face
outline_faces closed cs holes =
    let lid = lid_normal cs in
    outer_walls closed cs lid ++ join (hole_walls lid) holes
    ++ cond closed (lid_faces (all_corners cs holes) lid (outline_lid cs holes).triangles) []

-- ---- sweeps

abbrev pub section0 : Section
section0 = record { left = corner0; right = corner0 }

unfoldable pub same_corner : Corner → Corner → Bool
same_corner a b = same_point a.base b.base && same_point a.top b.top

-- thin, as `sweep` and document 01 have it; elsewhere only triangles are called thin
unfoldable pub is_widthless_section : Section → Bool
is_widthless_section s = same_corner s.left s.right

unfoldable pub is_flat_section : Section → Bool
is_flat_section s = same_point s.left.base s.left.top && same_point s.right.base s.right.top

-- the walls, the top and the floor between two sections
unfoldable pub pair_faces : Section → Section → List Face
pair_faces a b =
    let al = a.left in
    let ar = a.right in
    let bl = b.left in
    let br = b.right in
    let along = diff bl.base al.base in
    let side = vector (neg along.y) along.x zerof in
    let floor = cond (is_flat_section a && is_flat_section b) [] (quad 1 al.base bl.base br.base ar.base (negate unit_z) ∷ []) in
    let more = quad 1 ar.base br.base br.top ar.top (negate side) ∷ quad 1 al.top bl.top br.top ar.top unit_z ∷ floor in
    quad 1 al.base bl.base bl.top al.top side ∷ cond (is_widthless_section a && is_widthless_section b) [] more

-- f at each pair of neighbours
unfoldable pub pairs : {A B : Type 0} → (A → A → List B) → List A → List B
pairs f [] = []
pairs f (a ∷ []) = []
pairs f (a ∷ b ∷ rest) = f a b ++ pairs f (b ∷ rest)

-- the direction of the start's cap and of the end's, from a point on each section
unfoldable pub start_out : List Point → Vector
start_out ps = diff (get_or ps 0 origin) (get_or ps 1 (get_or ps 0 origin))

unfoldable pub end_out : List Point → Vector
end_out ps = let last = get_or ps (length ps - 1) origin in diff last (get_or ps (length ps - 2) origin)

unfoldable pub cap : Section → Vector → Face
cap s out = quad 4 s.left.base s.right.base s.right.top s.left.top out

unfoldable pub sweep_caps : List Section → List Face
sweep_caps [] = []
sweep_caps (s ∷ rest) =
    let bases = map (λ (t : Section). t.left.base) (s ∷ rest) in
    cap s (start_out bases) ∷ cap (get_or (s ∷ rest) (length rest) section0) (end_out bases) ∷ []

unfoldable pub sweep_faces : List Section → List Face
sweep_faces ss = pairs pair_faces ss ++ sweep_caps ss

-- the ellipse inscribed in a section: its centre and its sixteen points
pub record Ellipse : Type 0 where
  pub centre : Point
  pub ring : List Point

unfoldable pub ellipse_point : Point → Vector → Vector → ℕ → Point
ellipse_point centre across up k = moved (moved centre (scale across (cosine (angle k)))) (scale up (sine (angle k)))

unfoldable pub ellipse : Section → Ellipse
ellipse s =
    let l = s.left in
    let r = s.right in
    let centre = lerp l.base r.top halff in
    let across = diff (lerp l.base l.top halff) centre in
    let up = diff (lerp l.top r.top halff) centre in
    record { centre = centre; ring = list (ellipse_point centre across up) 16 0 }

-- side k of the tube between two ellipses
unfoldable pub tube_side : Ellipse → Ellipse → ℕ → Face
tube_side a b k =
    let ak = get_or a.ring k origin in
    let aj = get_or a.ring (next 16 k) origin in
    let bj = get_or b.ring (next 16 k) origin in
    let bk = get_or b.ring k origin in
    quad 1 ak aj bj bk (plus (plus (plus (diff ak a.centre) (diff aj a.centre)) (diff bk b.centre)) (diff bj b.centre))

unfoldable pub tube_faces : Ellipse → Ellipse → List Face
tube_faces a b = list (tube_side a b) 16 0

abbrev pub ellipse0 : Ellipse
ellipse0 = record { centre = origin; ring = [] }

unfoldable pub tube_caps : List Ellipse → List Face
tube_caps [] = []
tube_caps (e ∷ rest) =
    let centres = map (λ (d : Ellipse). d.centre) (e ∷ rest) in
    end_face e.ring (start_out centres) 4 ∷ end_face (get_or (e ∷ rest) (length rest) ellipse0).ring (end_out centres) 4 ∷ []

unfoldable pub round_sweep_faces : List Section → List Face
round_sweep_faces ss = let es = map ellipse ss in pairs tube_faces es ++ tube_caps es

-- ---- every object

unfoldable pub faces_of : Shape → List Face
faces_of (solid o t x) = solid_faces o t x
faces_of (outline closed cs holes) = outline_faces closed cs holes
faces_of (sweep ss) = sweep_faces ss
faces_of (round_sweep ss) = round_sweep_faces ss

-- its log: only a closed outline has one
unfoldable pub log_of : Shape → List Entry
log_of (solid o t x) = []
log_of (outline closed cs holes) = cond closed (outline_lid cs holes).log []
log_of (sweep ss) = []
log_of (round_sweep ss) = []
