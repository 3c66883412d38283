-- The price list's number of each shape is the number of triangles of its faces. Assumes nothing.
use mathlib.Core.Path.{◌≡◌, refl, sym, ◌∙◌, ap}
use mathlib.Core.Bool.{Bool, true, false, ◌&&◌, cond}
use mathlib.Core.List.{List, [], ◌∷◌, ◌++◌, map}
use Prim.Native.Nat.{ℕ, ◌+◌, ◌-◌, ◌*◌}
use native.Mathlib.Omega.{arith}
use lib.ListN.{length, length-map}
use lib.Ieee.{Float, lt, eq}
use Rattle.lists.specs.Loops.{list, join, sum_of}
use Rattle.float.specs.Number.{zerof, onef}
use Rattle.coords.specs.declared.Point.{Point}
use Rattle.coords_vector.specs.declared.Vector.{Vector}
use Rattle.coords_vector.specs.Vectors.{zero_v, negate}
use Rattle.object.specs.declared.Corner.{Corner}
use Rattle.object.specs.declared.Extent.{Extent}
use Rattle.object.specs.declared.Extent.TheVariants.{Box, Cylinder, Unsized}
use Rattle.object.specs.declared.Section.{Section}
use Rattle.object.specs.declared.Orientation.{Orientation}
use Rattle.object.specs.Object.{Shape, solid, outline, sweep, round_sweep, frame}
use Rattle.face.specs.Faces.{Triangle, Face, fan, quad}
use Rattle.lid_plane.specs.Plane.{bases_of, lid_normal, about}
use Rattle.lid.specs.Lid.{lid_price}
use Rattle.shape.specs.Price.{less_for, solid_price, outline_price, pair_price, pairs_price, caps_price, offered}
use Rattle.shape.specs.Shapes.{Axis, along_x, along_y, along_z, on_axis, box_face, box_sides, box, cylinder_side, end_face, cylinder_faces, cylinder, ring_at, solid_faces, wall, walls, outer_walls, hole_walls, all_corners, flat_of, outline_lid, has_height, lid_faces, outline_faces, is_widthless_section, is_flat_section, pair_faces, pairs, cap, sweep_caps, sweep_faces, Ellipse, ellipse, tube_side, tube_faces, tube_caps, round_sweep_faces, faces_of}
use Rattle.lists.proofs.Lists.{sum_append, sum_list}
use Rattle.face.proofs.Counts.{count}
use Rattle.lid.proofs.Facts.{lid_triangles}

-- ---- solids

quad_count : (part : ℕ) (p q r s : Point) (out : Vector) → count (quad part p q r s out) ≡ 2
unfolding quad fan list
quad_count part p q r s out = refl

end_count : (ring : List Point) (out : Vector) (part : ℕ) → count (end_face ring out part) ≡ 14
unfolding end_face fan list
end_count ring out part = refl

-- the two faces along an axis, less one where the depth is zero
sides_count : (o : Point) (t : Orientation) (l w h : Float) (axis : Axis) (depth : Float) (part : ℕ) → sum_of count (box_sides o t l w h axis depth part) + less_for depth ≡ 4
unfolding box_sides box_face sum_of less_for quad fan list
sides_count o t l w h axis depth part = go (eq depth zerof)
  where
    back : Face
    back = box_face o t l w h axis zerof (negate (on_axis axis onef zerof zerof (frame t))) (part + 1)

    go : (b : Bool) → 2 + sum_of count (cond b [] (back ∷ [])) + cond b 2 0 ≡ 4
    go true = refl
    go false = refl

box_count : (o : Point) (t : Orientation) (l w h : Float) → 12 - (less_for l + less_for w + less_for h) ≡ sum_of count (box o t l w h)
unfolding box
box_count o t l w h =
    let x = box_sides o t l w h along_x l 11 in
    let y = box_sides o t l w h along_y w 13 in
    let z = box_sides o t l w h along_z h 15 in
    omega (arith, sum_append count (x ++ y) z, sum_append count x y, sides_count o t l w h along_x l 11, sides_count o t l w h along_y w 13, sides_count o t l w h along_z h 15)

cylinder_count : (o : Point) (t : Orientation) (r h : Float) → cond (lt zerof h) 60 46 ≡ sum_of count (cylinder o t r h)
unfolding cylinder cylinder_faces cylinder_side sum_of end_face fan list
cylinder_count o t r h = go (lt zerof h) ∙ sym (sum_append count sides (ends (lt zerof h)))
  where
    bottom : List Point
    bottom = ring_at o t r zerof

    top : List Point
    top = ring_at o t r h

    up : Vector
    up = frame t zerof zerof onef

    sides : List Face
    sides = list (cylinder_side t bottom top) 16 0

    ends : Bool → List Face
    ends b = end_face top up 2 ∷ cond b (end_face bottom (negate up) 3 ∷ []) []

    side : (k : ℕ) → count (cylinder_side t bottom top k) ≡ 2
    side k = quad_count _ _ _ _ _ _

    go : (b : Bool) → cond b 60 46 ≡ sum_of count sides + sum_of count (ends b)
    go true = omega (arith, sum_list count 2 (cylinder_side t bottom top) side 16 0)
    go false = omega (arith, sum_list count 2 (cylinder_side t bottom top) side 16 0)

solid_count : (o : Point) (t : Orientation) (x : Extent) → solid_price x ≡ sum_of count (solid_faces o t x)
unfolding solid_price solid_faces sum_of
solid_count o t (Box l w h) = box_count o t l w h
solid_count o t (Cylinder r h) = cylinder_count o t r h
solid_count o t Unsized = refl

-- ---- outlines

pub walls_count : (cs : List Corner) (normal : Vector) (edges : ℕ) → sum_of count (walls cs normal edges) ≡ 2 * edges
unfolding walls wall quad fan list
walls_count cs normal edges = sum_list count 2 (wall cs normal) wall_count edges 0
  where
    wall_count : (k : ℕ) → count (wall cs normal k) ≡ 2
    wall_count k = refl

pub holes_count : (lid : Vector) (holes : List (List Corner)) → sum_of count (join (hole_walls lid) holes) ≡ 2 * sum_of length holes
unfolding join sum_of hole_walls
holes_count lid [] = refl
holes_count lid (h ∷ holes) =
    omega (arith, sum_append count (hole_walls lid h) (join (hole_walls lid) holes), walls_count h (negate (about h lid)) (length h), holes_count lid holes)

pub lid_count : (cs : List Corner) (lid : Vector) (ts : List Triangle) → sum_of count (lid_faces cs lid ts) ≡ length ts + cond (has_height cs) (length ts) 0
unfolding lid_faces sum_of
lid_count cs lid ts = go (has_height cs)
  where
    floor : Face
    floor = record { points = bases_of cs; triangles = ts; out = negate lid; part = 3 }

    go : (b : Bool) → length ts + sum_of count (cond b (floor ∷ []) []) ≡ length ts + cond b (length ts) 0
    go true = omega arith
    go false = refl

outline_count : (closed : Bool) (cs : List Corner) (holes : List (List Corner)) → outline_price closed cs holes ≡ sum_of count (outline_faces closed cs holes)
unfolding outline_price outline_faces outer_walls sum_of
outline_count false cs holes =
    let lid = lid_normal cs in
    let outer = walls cs zero_v (length cs - 1) in
    omega (arith, sum_append count (outer ++ join (hole_walls lid) holes) [], sum_append count outer (join (hole_walls lid) holes), walls_count cs zero_v (length cs - 1), holes_count lid holes)
outline_count true cs holes =
    let lid = lid_normal cs in
    let outer = walls cs (about cs lid) (length cs) in
    let ts = (outline_lid cs holes).triangles in
    let t = lid_price (flat_of cs holes) (outline_lid cs holes).log in
    let all = all_corners cs holes in
    let e : length ts ≡ t = unfold outline_lid in lid_triangles (flat_of cs holes) (length cs) (map length holes) in
    let l : sum_of count (lid_faces all lid ts) ≡ t + cond (has_height all) t 0 = lid_count all lid ts ∙ ap (λ (n : ℕ). n + cond (has_height all) n 0) e in
    omega (arith, sum_append count (outer ++ join (hole_walls lid) holes) (lid_faces all lid ts), sum_append count outer (join (hole_walls lid) holes), walls_count cs (about cs lid) (length cs), holes_count lid holes)

-- ---- sweeps

pair_sum : (widthless flat : Bool) (l r t f : Face) → count l ≡ 2 → count r ≡ 2 → count t ≡ 2 → count f ≡ 2
    → cond widthless 2 (cond flat 6 8) ≡ sum_of count (l ∷ cond widthless [] (r ∷ t ∷ cond flat [] (f ∷ [])))
unfolding sum_of
pair_sum true flat l r t f p q u v = omega arith
pair_sum false true l r t f p q u v = omega arith
pair_sum false false l r t f p q u v = omega arith

pair_count : (a b : Section) → pair_price a b ≡ sum_of count (pair_faces a b)
unfolding pair_price pair_faces quad fan list
pair_count a b = pair_sum (is_widthless_section a && is_widthless_section b) (is_flat_section a && is_flat_section b) _ _ _ _ refl refl refl refl

pairs_count : (ss : List Section) → pairs_price ss ≡ sum_of count (pairs pair_faces ss)
unfolding pairs_price pairs sum_of
pairs_count [] = refl
pairs_count (a ∷ []) = refl
pairs_count (a ∷ b ∷ rest) = omega (arith, sum_append count (pair_faces a b) (pairs pair_faces (b ∷ rest)), pair_count a b, pairs_count (b ∷ rest))

caps_count : (ss : List Section) → caps_price 4 ss ≡ sum_of count (sweep_caps ss)
unfolding caps_price sweep_caps sum_of cap quad fan list
caps_count [] = refl
caps_count (s ∷ rest) = refl

tube_count : (es : List Ellipse) → 32 * (length es - 1) ≡ sum_of count (pairs tube_faces es)
unfolding pairs sum_of tube_faces tube_side quad fan list
tube_count [] = refl
tube_count (a ∷ []) = refl
tube_count (a ∷ b ∷ rest) = omega (arith, sum_append count (tube_faces a b) (pairs tube_faces (b ∷ rest)), sixteen, tube_count (b ∷ rest))
  where
    side : (k : ℕ) → count (tube_side a b k) ≡ 2
    side k = refl

    sixteen : sum_of count (tube_faces a b) ≡ 2 * 16
    sixteen = sum_list count 2 (tube_side a b) side 16 0

tube_caps_count : (ss : List Section) → caps_price 28 ss ≡ sum_of count (tube_caps (map ellipse ss))
unfolding caps_price tube_caps sum_of end_face fan list
tube_caps_count [] = refl
tube_caps_count (s ∷ rest) = refl

-- ---- every shape

pub offered_count : (s : Shape) → offered s ≡ sum_of count (faces_of s)
unfolding offered faces_of sweep_faces round_sweep_faces
offered_count (solid o t x) = solid_count o t x
offered_count (outline closed cs holes) = outline_count closed cs holes
offered_count (sweep ss) = omega (arith, sum_append count (pairs pair_faces ss) (sweep_caps ss), pairs_count ss, caps_count ss)
offered_count (round_sweep ss) =
    omega (arith, sum_append count (pairs tube_faces (map ellipse ss)) (tube_caps (map ellipse ss)), tube_count (map ellipse ss), length-map ss ellipse, tube_caps_count ss)
