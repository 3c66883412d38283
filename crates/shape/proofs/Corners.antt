-- The corner numbers of every face's triangles are numbers of its points. Assumes nothing.
use mathlib.Core.Path.{◌≡◌, refl}
use mathlib.Core.Bool.{Bool, true, false, ◌&&◌, cond}
use mathlib.Core.List.{List, [], ◌∷◌, ◌++◌, map}
use Prim.Native.Nat.{ℕ, ◌+◌, ◌-◌}
use native.Mathlib.Omega.{arith}
use lib.ListN.{length, get_or, length-map, length-append}
use lib.Ieee.{Float, lt, eq}
use Rattle.lists.specs.Each.{Each}
use Rattle.lists.specs.Loops.{list, join, sum_of}
use Rattle.float.specs.Number.{zerof, onef}
use Rattle.coords.specs.declared.Point.{Point}
use Rattle.coords_vector.specs.declared.Vector.{Vector}
use Rattle.coords_vector.specs.Vectors.{zero_v, negate}
use Rattle.object.specs.declared.Corner.{Corner}
use Rattle.object.specs.declared.Extent.{Extent}
use Rattle.object.specs.declared.Extent.TheVariants.{Box, Cylinder, Unsized}
use Rattle.object.specs.declared.Section.{Section}
use Rattle.object.specs.declared.Orientation.{Orientation}
use Rattle.object.specs.Object.{Shape, solid, outline, sweep, round_sweep, frame}
use Rattle.face.specs.Faces.{Triangle, Face}
use Rattle.face.specs.Contract.Faces.{TriangleLow, FaceLow}
use Rattle.lid_plane.specs.Plane.{tops_of, bases_of, lid_normal, about}
use Rattle.shape.specs.Shapes.{Axis, along_x, along_y, along_z, box_face, box_sides, box, cylinder_side, end_face, cylinder_faces, cylinder, ring_at, ring_point, solid_faces, wall, walls, outer_walls, hole_walls, all_corners, flat_of, outline_lid, has_height, lid_faces, outline_faces, is_widthless_section, is_flat_section, pair_faces, pairs, cap, sweep_caps, sweep_faces, Ellipse, ellipse0, ellipse, tube_side, tube_faces, tube_caps, round_sweep_faces, faces_of}
use Rattle.lists.proofs.Lists.{length_list, each_append, each_list, each_join, each_map, each_at, each_any}
use Rattle.lists.proofs.Loops.{either}
use Rattle.face.proofs.Corners.{fan_low, quad_low}
use Rattle.lid.proofs.Facts.{total, lid_corners}

end_low : (ring : List Point) (out : Vector) (part : ℕ) → length ring ≡ 16 → FaceLow (end_face ring out part)
unfolding end_face
end_low ring out part h = fan_low (length ring) 16 (omega arith)

-- ---- solids

sides_low : (o : Point) (t : Orientation) (l w h : Float) (axis : Axis) (depth : Float) (part : ℕ) → Each FaceLow (box_sides o t l w h axis depth part)
unfolding box_sides box_face
sides_low o t l w h axis depth part = (quad_low _ _ _ _ _ _, either (Each FaceLow) (eq depth zerof) {x = []} tt (quad_low _ _ _ _ _ _, tt))

box_low : (o : Point) (t : Orientation) (l w h : Float) → Each FaceLow (box o t l w h)
unfolding box
box_low o t l w h =
    each_append FaceLow (box_sides o t l w h along_x l 11 ++ box_sides o t l w h along_y w 13) (box_sides o t l w h along_z h 15)
    (each_append FaceLow (box_sides o t l w h along_x l 11) (box_sides o t l w h along_y w 13) (sides_low o t l w h along_x l 11) (sides_low o t l w h along_y w 13))
    (sides_low o t l w h along_z h 15)

pub ring_size : (o : Point) (t : Orientation) (r z : Float) → length (ring_at o t r z) ≡ 16
unfolding ring_at
ring_size o t r z = length_list (ring_point o t r z) 16 0

cylinder_low : (o : Point) (t : Orientation) (r h : Float) → Each FaceLow (cylinder o t r h)
unfolding cylinder cylinder_faces cylinder_side
cylinder_low o t r h =
    let bottom = ring_at o t r zerof in
    let top = ring_at o t r h in
    let up = frame t zerof zerof onef in
    let closing = cond (lt zerof h) (end_face bottom (negate up) 3 ∷ []) [] in
    let ends : Each FaceLow (end_face top up 2 ∷ closing) =
    (end_low top up 2 (ring_size o t r h), either (Each FaceLow) (lt zerof h) {x = end_face bottom (negate up) 3 ∷ []} {y = []} (end_low bottom (negate up) 3 (ring_size o t r zerof), tt) tt) in
    each_append FaceLow (list (cylinder_side t bottom top) 16 0) (end_face top up 2 ∷ closing) (each_list FaceLow (cylinder_side t bottom top) 16 0 (λ k a b. quad_low _ _ _ _ _ _)) ends

solid_low : (o : Point) (t : Orientation) (x : Extent) → Each FaceLow (solid_faces o t x)
unfolding solid_faces
solid_low o t (Box l w h) = box_low o t l w h
solid_low o t (Cylinder r h) = cylinder_low o t r h
solid_low o t Unsized = tt

-- ---- outlines

walls_low : (cs : List Corner) (normal : Vector) (edges : ℕ) → Each FaceLow (walls cs normal edges)
unfolding walls wall
walls_low cs normal edges = each_list FaceLow (wall cs normal) edges 0 (λ k a b. quad_low _ _ _ _ _ _)

outer_low : (closed : Bool) (cs : List Corner) (lid : Vector) → Each FaceLow (outer_walls closed cs lid)
unfolding outer_walls
outer_low true cs lid = walls_low cs (about cs lid) (length cs)
outer_low false cs lid = walls_low cs zero_v (length cs - 1)

holes_low : (lid : Vector) (holes : List (List Corner)) → Each FaceLow (join (hole_walls lid) holes)
unfolding hole_walls
holes_low lid holes = each_join (λ (h : List Corner). Unit {0}) FaceLow (hole_walls lid) (λ h u. walls_low h (negate (about h lid)) (length h)) holes (each_any (λ (h : List Corner). Unit {0}) (λ h. tt) holes)

-- the corners of an outline with its holes are as many as the counts say
corners_total : (holes : List (List Corner)) → length (join (λ h. h) holes) ≡ total (map length holes)
unfolding join sum_of
corners_total [] = refl
corners_total (h ∷ holes) = omega (arith, length-append h (join (λ h. h) holes), corners_total holes)

pub all_total : (cs : List Corner) (holes : List (List Corner)) → length (all_corners cs holes) ≡ length cs + total (map length holes)
unfolding all_corners
all_total cs holes = omega (arith, length-append cs (join (λ h. h) holes), corners_total holes)

lid_faces_low : (cs : List Corner) (lid : Vector) (ts : List Triangle) → Each (TriangleLow (length cs)) ts → Each FaceLow (lid_faces cs lid ts)
unfolding lid_faces tops_of bases_of
lid_faces_low cs lid ts q =
    (rw length-map q, either (Each FaceLow) (has_height cs) {y = []} (rw length-map q, tt) tt)

outline_low : (closed : Bool) (cs : List Corner) (holes : List (List Corner)) → Each FaceLow (outline_faces closed cs holes)
unfolding outline_faces
outline_low closed cs holes =
    let lid = lid_normal cs in
    let ts = (outline_lid cs holes).triangles in
    let q : Each (TriangleLow (length (all_corners cs holes))) ts =
    rw (all_total cs holes) (unfold outline_lid in lid_corners (flat_of cs holes) (length cs) (map length holes)) in
    each_append FaceLow (outer_walls closed cs lid ++ join (hole_walls lid) holes) (cond closed (lid_faces (all_corners cs holes) lid ts) [])
    (each_append FaceLow (outer_walls closed cs lid) (join (hole_walls lid) holes) (outer_low closed cs lid) (holes_low lid holes))
    (either (Each FaceLow) closed {x = lid_faces (all_corners cs holes) lid ts} {y = []} (lid_faces_low (all_corners cs holes) lid ts q) tt)

-- ---- sweeps

pairs_low : {A : Type 0} (f : A → A → List Face) → ((a b : A) → Each FaceLow (f a b)) → (xs : List A) → Each FaceLow (pairs f xs)
unfolding pairs
pairs_low f h [] = tt
pairs_low f h (a ∷ []) = tt
pairs_low f h (a ∷ b ∷ rest) = each_append FaceLow (f a b) (pairs f (b ∷ rest)) (h a b) (pairs_low f h (b ∷ rest))

pair_low : (a b : Section) → Each FaceLow (pair_faces a b)
unfolding pair_faces
pair_low a b = (
  quad_low _ _ _ _ _ _,
  either (Each FaceLow) (is_widthless_section a && is_widthless_section b) {x = []} tt
      (quad_low _ _ _ _ _ _, (quad_low _ _ _ _ _ _, either (Each FaceLow) (is_flat_section a && is_flat_section b) {x = []} tt (quad_low _ _ _ _ _ _, tt))),
)

caps_low : (ss : List Section) → Each FaceLow (sweep_caps ss)
unfolding sweep_caps cap
caps_low [] = tt
caps_low (s ∷ rest) = (quad_low _ _ _ _ _ _, (quad_low _ _ _ _ _ _, tt))

tube_low : (a b : Ellipse) → Each FaceLow (tube_faces a b)
unfolding tube_faces tube_side
tube_low a b = each_list FaceLow (tube_side a b) 16 0 (λ k a b. quad_low _ _ _ _ _ _)

-- an ellipse has sixteen points
abbrev pub Sixteen : Ellipse → Type 0
Sixteen e = length e.ring ≡ 16

pub ellipse_sixteen : (s : Section) → Sixteen (ellipse s)
unfolding ellipse
ellipse_sixteen s = length_list _ 16 0

tube_caps_low : (es : List Ellipse) → Each Sixteen es → Each FaceLow (tube_caps es)
unfolding tube_caps
tube_caps_low [] q = tt
tube_caps_low (e ∷ rest) q =
    (end_low e.ring _ 4 q.0, (end_low (get_or (e ∷ rest) (length rest) ellipse0).ring _ 4 (each_at Sixteen (e ∷ rest) (length rest) ellipse0 (omega arith) q), tt))

-- ---- every shape

pub faces_low : (s : Shape) → Each FaceLow (faces_of s)
unfolding faces_of sweep_faces round_sweep_faces
faces_low (solid o t x) = solid_low o t x
faces_low (outline closed cs holes) = outline_low closed cs holes
faces_low (sweep ss) = each_append FaceLow (pairs pair_faces ss) (sweep_caps ss) (pairs_low pair_faces pair_low ss) (caps_low ss)
faces_low (round_sweep ss) =
    each_append FaceLow (pairs tube_faces (map ellipse ss)) (tube_caps (map ellipse ss)) (pairs_low tube_faces tube_low (map ellipse ss))
    (tube_caps_low (map ellipse ss) (each_map (λ (s : Section). Unit {0}) Sixteen ellipse (λ s u. ellipse_sixteen s) ss (each_any (λ (s : Section). Unit {0}) (λ s. tt) ss)))
