-- Every face of every shape has places within 6 * 2 ^ 24. Assumes nothing.
use Prim.Native.Nat.{ℕ, ◌+◌, ◌-◌}
use mathlib.Core.Bool.{Bool, true, false, ◌&&◌}
use mathlib.Core.List.{List, [], ◌∷◌, ◌++◌, map}
use lib.ListN.{get_or, length as size}
use lib.Dec.{lit≤}
use lib.Ieee.{Float, lt, eq, of_bits}
use native.Mathlib.Omega.{arith}
use Rattle.lists.specs.Each.{Each}
use Rattle.lists.specs.Loops.{list, join, next}
use Rattle.float.specs.Number.{zerof, onef}
use Rattle.coords.specs.declared.Point.{Point}
use Rattle.coords_vector.specs.declared.Vector.{Vector}
use Rattle.coords_vector.specs.Vectors.{zero_v}
use Rattle.coords.specs.Coords.{origin}
use Rattle.object.specs.declared.Corner.{Corner}
use Rattle.object.specs.declared.Extent.{Extent}
use Rattle.object.specs.declared.Extent.TheVariants.{Box, Cylinder, Unsized}
use Rattle.object.specs.declared.Section.{Section}
use Rattle.object.specs.declared.Orientation.{Orientation}
use Rattle.object.specs.Object.{Shape, solid, outline, sweep, round_sweep}
use Rattle.face.specs.Faces.{Triangle, quad}
use Rattle.lid_plane.specs.Plane.{tops_of, bases_of, lid_normal, about}
use Rattle.shape.specs.Shapes.{Axis, along_x, along_y, along_z, on_axis, box_point, box_face, box_sides, box, ring_at, cylinder_side, end_face, cylinder_faces, cylinder, solid_faces, corner0, wall, walls, outer_walls, hole_walls, all_corners, outline_lid, has_height, lid_faces, outline_faces, is_widthless_section, is_flat_section, pair_faces, pairs, cap, sweep_caps, sweep_faces, section0, Ellipse, ellipse, ellipse0, tube_side, tube_faces, tube_caps, round_sweep_faces, faces_of}
use Rattle.lists.proofs.Lists.{each_at, each_list, each_append, each_get_d, each_cond, each_map, each_join, each_imp}
use Rattle.float.proofs.Within.{Within}
use Rattle.coords.proofs.Near.{NearP, near_p_up, origin_near}
use Rattle.object.proofs.Near.{NearX, NearShape, Paired, NearC, NearS}
use Rattle.face.proofs.Good.{Sound}
use Rattle.shape.proofs.Near.{End, end_zero, end_one, box_near, ring_at_near, ellipse_near}

-- ---- faces
quad_sound : (part : ℕ) (p q r s : Point) (out : Vector) → NearP 6 24 p → NearP 6 24 q → NearP 6 24 r → NearP 6 24 s → Sound (quad part p q r s out)
unfolding quad
quad_sound part p q r s out a b c d = (a, (b, (c, (d, tt))))

-- ---- the box
on_axis_lem : (axis : Axis) (s p q : Float) (P : Point → Type 0) (f : Float → Float → Float → Point) → ((a b c : Float) → End a → End b → End c → P (f a b c)) → End s → End p → End q → P (on_axis axis s p q f)
unfolding on_axis
on_axis_lem along_x s p q P f h a b c = h s p q a b c
on_axis_lem along_y s p q P f h a b c = h q s p c a b
on_axis_lem along_z s p q P f h a b c = h p q s b c a

module _ (o : Point) (t : Orientation) (l w h : Float) (n : NearP 1 24 o) (p : Paired t) (L : Within 1 24 l) (W : Within 1 24 w) (H : Within 1 24 h) where
  corner_near : (a b c : Float) → End a → End b → End c → NearP 6 24 (box_point o t l w h a b c)
  corner_near a b c A B C = near_p_up (box_near o t l w h a b c n p L W H A B C) tt

  box_face_lem : (axis : Axis) (side : Float) (out : Vector) (part : ℕ) → End side → Sound (box_face o t l w h axis side out part)
  unfolding box_face
  box_face_lem axis side out part e =
      let f = box_point o t l w h in
      quad_sound part _ _ _ _ out
      (on_axis_lem axis side zerof zerof (NearP 6 24) f corner_near e end_zero end_zero)
      (on_axis_lem axis side onef zerof (NearP 6 24) f corner_near e end_one end_zero)
      (on_axis_lem axis side onef onef (NearP 6 24) f corner_near e end_one end_one)
      (on_axis_lem axis side zerof onef (NearP 6 24) f corner_near e end_zero end_one)

  box_sides_lem : (axis : Axis) (depth : Float) (part : ℕ) → Each Sound (box_sides o t l w h axis depth part)
  unfolding box_sides
  box_sides_lem axis depth part = (box_face_lem axis onef _ part end_one, each_cond Sound (eq depth zerof) [] _ tt (box_face_lem axis zerof _ (part + 1) end_zero, tt))

  box_sound : Each Sound (box o t l w h)
  unfolding box
  box_sound =
      each_append Sound (box_sides o t l w h along_x l 11 ++ box_sides o t l w h along_y w 13) (box_sides o t l w h along_z h 15)
      (each_append Sound (box_sides o t l w h along_x l 11) (box_sides o t l w h along_y w 13) (box_sides_lem along_x l 11) (box_sides_lem along_y w 13)) (box_sides_lem along_z h 15)

-- ---- the cylinder
place : (ps : List Point) → Each (NearP 6 24) ps → (i : ℕ) → NearP 6 24 (get_or ps i origin)
place ps n i = each_get_d (NearP 6 24) ps origin origin_near n i

end_sound : (ring : List Point) (out : Vector) (part : ℕ) → Each (NearP 6 24) ring → Sound (end_face ring out part)
unfolding end_face
end_sound ring out part n = n

module _ (t : Orientation) (bottom top : List Point) (nb : Each (NearP 6 24) bottom) (nt : Each (NearP 6 24) top) where
  side_sound : (k : ℕ) → Sound (cylinder_side t bottom top k)
  unfolding cylinder_side
  side_sound k = quad_sound 1 _ _ _ _ _ (place bottom nb k) (place bottom nb (next 16 k)) (place top nt (next 16 k)) (place top nt k)

  cylinder_sound : (h : Float) → Each Sound (cylinder_faces t bottom top h)
  unfolding cylinder_faces
  cylinder_sound h =
      each_append Sound (list (cylinder_side t bottom top) 16 0) _ (each_list Sound (cylinder_side t bottom top) 16 0 (λ i a b. side_sound i))
      (end_sound top _ 2 nt, each_cond Sound (lt zerof h) _ [] (end_sound bottom _ 3 nb, tt) tt)

zero_24 : Within 1 24 zerof
unfolding of_bits
zero_24 = record { known = tt; small = lit≤ tt }

solid_sound : (o : Point) (t : Orientation) (x : Extent) → NearP 1 24 o → Paired t → NearX x → Each Sound (solid_faces o t x)
unfolding solid_faces cylinder
solid_sound o t (Box l w h) n p x = box_sound o t l w h n p x.0 x.1 x.2
solid_sound o t (Cylinder r h) n p x =
    cylinder_sound t (ring_at o t r zerof) (ring_at o t r h) (ring_at_near o t r zerof n p x.0 zero_24) (ring_at_near o t r h n p x.0 x.1) h
solid_sound o t Unsized n p x = tt

-- ---- outlines
corner_up : (c : Corner) → NearC 1 24 c → NearC 6 24 c
corner_up c n = record { base = near_p_up n.base tt; top = near_p_up n.top tt }

corner0_near : NearC 1 24 corner0
corner0_near = record { base = record { x = zero_24; y = zero_24; z = zero_24 }; top = record { x = zero_24; y = zero_24; z = zero_24 } }

module _ (cs : List Corner) (n : Each (NearC 1 24) cs) where
  corner_at_lem : (i : ℕ) → NearC 6 24 (get_or cs i corner0)
  corner_at_lem i = corner_up (get_or cs i corner0) (each_get_d (NearC 1 24) cs corner0 corner0_near n i)

  walls_sound : (normal : Vector) (edges : ℕ) → Each Sound (walls cs normal edges)
  unfolding walls wall
  walls_sound normal edges =
      each_list Sound (wall cs normal) edges 0 (λ i a b. quad_sound 1 _ _ _ _ _ (corner_at_lem i).base (corner_at_lem (next (size cs) i)).base (corner_at_lem (next (size cs) i)).top (corner_at_lem i).top)

  outer_sound : (closed : Bool) (lid : Vector) → Each Sound (outer_walls closed cs lid)
  unfolding outer_walls
  outer_sound true lid = walls_sound (about cs lid) (size cs)
  outer_sound false lid = walls_sound zero_v (size cs - 1)

  hole_sound : (lid : Vector) → Each Sound (hole_walls lid cs)
  unfolding hole_walls
  hole_sound lid = walls_sound _ (size cs)

  tops_near : Each (NearP 6 24) (tops_of cs)
  unfolding tops_of
  tops_near = each_map (NearC 1 24) (NearP 6 24) (λ (c : Corner). c.top) (λ c m. near_p_up m.top tt) cs n

  bases_near : Each (NearP 6 24) (bases_of cs)
  unfolding bases_of
  bases_near = each_map (NearC 1 24) (NearP 6 24) (λ (c : Corner). c.base) (λ c m. near_p_up m.base tt) cs n

  lid_sound : (lid : Vector) (ts : List Triangle) → Each Sound (lid_faces cs lid ts)
  unfolding lid_faces
  lid_sound lid ts = (tops_near, each_cond Sound (has_height cs) _ [] (bases_near, tt) tt)

outline_sound : (closed : Bool) (cs : List Corner) (holes : List (List Corner)) → Each (NearC 1 24) cs → Each (Each (NearC 1 24)) holes → Each Sound (outline_faces closed cs holes)
unfolding outline_faces all_corners outline_lid
outline_sound closed cs holes n m =
    let lid = lid_normal cs in
    let all = cs ++ join (λ h. h) holes in
    each_append Sound (outer_walls closed cs lid ++ join (hole_walls lid) holes) _
    (each_append Sound (outer_walls closed cs lid) (join (hole_walls lid) holes) (outer_sound cs n closed lid) (each_join (Each (NearC 1 24)) Sound (hole_walls lid) (λ h k. hole_sound h k lid) holes m))
    (each_cond Sound closed _ []
    (lid_sound all (each_append (NearC 1 24) cs (join (λ h. h) holes) n (each_join (Each (NearC 1 24)) (NearC 1 24) (λ h. h) (λ h k. k) holes m)) lid (outline_lid cs holes).triangles)
    tt)

-- ---- sweeps
each_pairs : {A B : Type 0} (P : A → Type 0) (Q : B → Type 0) (f : A → A → List B) → ((a b : A) → P a → P b → Each Q (f a b)) → (xs : List A) → Each P xs → Each Q (pairs f xs)
unfolding pairs
each_pairs P Q f h [] p = tt
each_pairs P Q f h (a ∷ []) p = tt
each_pairs P Q f h (a ∷ b ∷ rest) p = each_append Q (f a b) (pairs f (b ∷ rest)) (h a b p.0 p.1.0) (each_pairs P Q f h (b ∷ rest) p.1)

section_up : (s : Section) → NearS 1 24 s → NearS 6 24 s
section_up s n = record { left = corner_up s.left n.left; right = corner_up s.right n.right }

pair_sound : (a b : Section) → NearS 6 24 a → NearS 6 24 b → Each Sound (pair_faces a b)
unfolding pair_faces
pair_sound a b m n = (
  quad_sound 1 _ _ _ _ _ m.left.base n.left.base n.left.top m.left.top,
  each_cond Sound (is_widthless_section a && is_widthless_section b) [] _ tt (
    quad_sound 1 _ _ _ _ _ m.right.base n.right.base n.right.top m.right.top,
    (
      quad_sound 1 _ _ _ _ _ m.left.top n.left.top n.right.top m.right.top,
      each_cond Sound (is_flat_section a && is_flat_section b) [] _ tt (quad_sound 1 _ _ _ _ _ m.left.base n.left.base n.right.base m.right.base, tt),
    ),
  ),
)

cap_sound : (s : Section) (out : Vector) → NearS 6 24 s → Sound (cap s out)
unfolding cap
cap_sound s out n = quad_sound 4 _ _ _ _ _ n.left.base n.right.base n.right.top n.left.top

section0_near : NearS 6 24 section0
section0_near = record { left = corner_up corner0 corner0_near; right = corner_up corner0 corner0_near }

caps_sound : (ss : List Section) → Each (NearS 6 24) ss → Each Sound (sweep_caps ss)
unfolding sweep_caps
caps_sound [] n = tt
caps_sound (s ∷ rest) n = (cap_sound s _ n.0, (cap_sound (get_or (s ∷ rest) (size rest) section0) _ (each_get_d (NearS 6 24) (s ∷ rest) section0 section0_near n (size rest)), tt))

sweep_sound : (ss : List Section) → Each (NearS 1 24) ss → Each Sound (sweep_faces ss)
unfolding sweep_faces
sweep_sound ss n =
    let m = each_imp (NearS 1 24) (NearS 6 24) section_up ss n in
    each_append Sound (pairs pair_faces ss) (sweep_caps ss) (each_pairs (NearS 6 24) Sound pair_faces pair_sound ss m) (caps_sound ss m)

-- ---- round sweeps
abbrev Round : Ellipse → Type 0
Round e = Each (NearP 6 24) e.ring

tube_sound : (a b : Ellipse) → Round a → Round b → Each Sound (tube_faces a b)
unfolding tube_faces tube_side
tube_sound a b m n = each_list Sound (tube_side a b) 16 0 (λ k h g. quad_sound 1 _ _ _ _ _ (place a.ring m k) (place a.ring m (next 16 k)) (place b.ring n (next 16 k)) (place b.ring n k))

tube_caps_lem : (es : List Ellipse) → Each Round es → Each Sound (tube_caps es)
unfolding tube_caps
tube_caps_lem [] n = tt
tube_caps_lem (e ∷ rest) n =
    (end_sound e.ring _ 4 n.0, (end_sound (get_or (e ∷ rest) (size rest) ellipse0).ring _ 4 (each_at Round (e ∷ rest) (size rest) ellipse0 (omega arith) n), tt))

round_sound : (ss : List Section) → Each (NearS 1 24) ss → Each Sound (round_sweep_faces ss)
unfolding round_sweep_faces
round_sound ss n =
    let m = each_map (NearS 1 24) Round ellipse ellipse_near ss n in
    each_append Sound (pairs tube_faces (map ellipse ss)) (tube_caps (map ellipse ss)) (each_pairs Round Sound tube_faces tube_sound (map ellipse ss) m) (tube_caps_lem (map ellipse ss) m)

-- ---- every shape
pub faces_sound : (s : Shape) → NearShape s → Each Sound (faces_of s)
unfolding faces_of
faces_sound (solid o t x) n = solid_sound o t x n.0 n.1 n.2
faces_sound (outline closed cs holes) n = outline_sound closed cs holes n.0 n.1
faces_sound (sweep ss) n = sweep_sound ss n
faces_sound (round_sweep ss) n = round_sound ss n
