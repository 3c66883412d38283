-- How many points, triangles and log entries a shape has, by the bytes of its record and the limits of document 01, section 1: so that all counts fit u32. Assumes nothing.
use mathlib.Core.Path.{◌≡◌, refl, sym, ◌∙◌}
use mathlib.Core.Bool.{Bool, true, false, ◌&&◌, cond}
use mathlib.Core.List.{List, [], ◌∷◌, ◌++◌, map}
use Prim.Native.Nat.{ℕ, ◌+◌, ◌-◌, ◌*◌, ◌^◌, ◌≤◌, ◌<◌, zero-le}
use native.Mathlib.Nat.{mul-suc}
use native.Mathlib.Omega.{arith}
use lib.ListN.{length, get_or, length-map}
use lib.Dec.{eqb}
use lib.Ieee.{Float, lt, eq}
use Rattle.lists.specs.Each.{Each}
use Rattle.lists.specs.Loops.{list, join, sum_of, count_of}
use Rattle.float.specs.Number.{zerof, onef}
use Rattle.coords.specs.declared.Point.{Point}
use Rattle.coords_vector.specs.declared.Vector.{Vector}
use Rattle.coords_vector.specs.Vectors.{zero_v, negate}
use Rattle.object.specs.declared.Corner.{Corner}
use Rattle.object.specs.declared.Extent.{Extent}
use Rattle.object.specs.declared.Extent.TheVariants.{Box, Cylinder, Unsized}
use Rattle.object.specs.declared.Section.{Section}
use Rattle.object.specs.declared.Orientation.{Orientation}
use Rattle.object.specs.Limits.{most_holes, most_corners}
use Rattle.object.specs.Object.{Shape, solid, outline, sweep, round_sweep, frame}
use Rattle.scene.specs.declared.headers.Body.{Body}
use Rattle.scene.specs.declared.headers.Body.TheVariants.{Solid, Outline, Sweep}
use Rattle.scene_field.specs.Fields.{point_at, counts_at, corners_at, holes_at, sections_at}
use Rattle.scene.specs.Contract.Headers.{body_size, orientation_of, shape_of, Limits}
use Rattle.scene.proofs.Parts.{holes_length, corners_count, sections_length, counts_length}
use Rattle.face.specs.Faces.{Triangle, Face, quad, fan}
use Rattle.face.specs.Contract.Drawing.{tally, Countable}
use Rattle.face.proofs.Counts.{count}
use Rattle.lid_plane.specs.Plane.{tops_of, bases_of, lid_normal, about}
use Rattle.lid.specs.Rings.{turn_of}
use Rattle.lid.specs.Log.{Entry, is_mark, left_over}
use Rattle.lid.specs.Lid.{one_more, lid_price}
use Rattle.lid.proofs.Facts.{total, log_size, lid_triangles, lid_most}
use Rattle.lists.proofs.Lists.{sum_append, sum_list, each_at, each_map, each_any}
use Rattle.lists.proofs.Loops.{either}
use Rattle.shape.specs.Contract.Drawn.{CanDraw}
use Rattle.shape.specs.Price.{offered, outline_price, solid_price, pair_price, pairs_price, caps_price}
use Rattle.shape.specs.Shapes.{Axis, along_x, along_y, along_z, on_axis, box_face, box_sides, box, cylinder_side, end_face, cylinder_faces, cylinder, ring_at, solid_faces, wall, walls, outer_walls, hole_walls, all_corners, flat_of, outline_lid, has_height, lid_faces, outline_faces, is_widthless_section, is_flat_section, pair_faces, pairs, cap, sweep_caps, sweep_faces, Ellipse, ellipse, ellipse0, tube_side, tube_faces, tube_caps, round_sweep_faces, faces_of, log_of}
use Rattle.shape.proofs.Corners.{ring_size, all_total, Sixteen, ellipse_sixteen}
use Rattle.shape.proofs.Prices.{offered_count}

-- the points of a face, and of faces
abbrev pub points : Face → ℕ
points f = length f.points

quad_points : (part : ℕ) (p q r s : Point) (out : Vector) → points (quad part p q r s out) ≡ 4
unfolding quad
quad_points part p q r s out = refl

-- where a face may be left out
four_or_none : (b : Bool) (f : Face) → points f ≡ 4 → sum_of points (cond b [] (f ∷ [])) ≤ 4
unfolding sum_of
four_or_none true f h = omega arith
four_or_none false f h = omega arith

at_most_then : (b : Bool) (fs : List Face) (n : ℕ) → sum_of points fs ≤ n → sum_of points (cond b fs []) ≤ n
unfolding sum_of
at_most_then true fs n h = h
at_most_then false fs n h = omega arith

-- ---- solids

sides_points : (o : Point) (t : Orientation) (l w h : Float) (axis : Axis) (depth : Float) (part : ℕ) → sum_of points (box_sides o t l w h axis depth part) ≤ 8
unfolding box_sides box_face sum_of quad
sides_points o t l w h axis depth part =
    omega (arith, four_or_none (eq depth zerof) (box_face o t l w h axis zerof (negate (on_axis axis onef zerof zerof (frame t))) (part + 1)) refl)

pub box_points : (o : Point) (t : Orientation) (l w h : Float) → sum_of points (box o t l w h) ≤ 24
unfolding box
box_points o t l w h =
    let x = box_sides o t l w h along_x l 11 in
    let y = box_sides o t l w h along_y w 13 in
    let z = box_sides o t l w h along_z h 15 in
    omega (arith, sum_append points (x ++ y) z, sum_append points x y, sides_points o t l w h along_x l 11, sides_points o t l w h along_y w 13, sides_points o t l w h along_z h 15)

pub cylinder_points : (o : Point) (t : Orientation) (r h : Float) → sum_of points (cylinder o t r h) ≡ cond (lt zerof h) 96 80
unfolding cylinder cylinder_faces sum_of end_face
cylinder_points o t r h =
    let bottom = ring_at o t r zerof in
    let top = ring_at o t r h in
    let up = frame t zerof zerof onef in
    let floor : Face = record { points = bottom; triangles = fan 16; out = negate up; part = 3 } in
    let sides = list (cylinder_side t bottom top) 16 0 in
    sum_append points sides (end_face top up 2 ∷ cond (lt zerof h) (floor ∷ []) [])
    ∙ closed (lt zerof h) (sum_of points sides) floor top (sum_list points 4 (cylinder_side t bottom top) (side bottom top) 16 0) (ring_size o t r zerof) (ring_size o t r h)
  where
    side : (bottom top : List Point) (k : ℕ) → points (cylinder_side t bottom top k) ≡ 4
    side bottom top k = unfold cylinder_side in quad_points _ _ _ _ _ _

    closed : (b : Bool) (n : ℕ) (floor : Face) (top : List Point) → n ≡ 4 * 16 → points floor ≡ 16 → length top ≡ 16 → n + (length top + sum_of points (cond b (floor ∷ []) [])) ≡ cond b 96 80
    closed true n floor top p q r = omega arith
    closed false n floor top p q r = omega arith

solid_points : (o : Point) (t : Orientation) (x : Extent) → sum_of points (solid_faces o t x) ≤ 96
unfolding solid_faces sum_of
solid_points o t (Box l w h) = omega (arith, box_points o t l w h)
solid_points o t (Cylinder r h) = omega (arith, cylinder_points o t r h, either (λ (n : ℕ). n ≤ 96) (lt zerof h) {x = 96} {y = 80} (omega arith) (omega arith))
solid_points o t Unsized = omega arith

price_most : (b : Bool) → cond b 60 46 ≤ 60
price_most true = omega arith
price_most false = omega arith

solid_most_lem : (x : Extent) → solid_price x ≤ 60
unfolding solid_price
solid_most_lem (Box l w h) = omega arith
solid_most_lem (Cylinder r h) = price_most (lt zerof h)
solid_most_lem Unsized = omega arith

-- ---- outlines

pub walls_points : (cs : List Corner) (normal : Vector) (edges : ℕ) → sum_of points (walls cs normal edges) ≡ 4 * edges
unfolding walls wall quad
walls_points cs normal edges = sum_list points 4 (wall cs normal) wall_points edges 0
  where
    wall_points : (k : ℕ) → points (wall cs normal k) ≡ 4
    wall_points k = refl

pub outer_points : (closed : Bool) (cs : List Corner) (lid : Vector) → sum_of points (outer_walls closed cs lid) ≤ 4 * length cs
unfolding outer_walls
outer_points true cs lid = omega (arith, walls_points cs (about cs lid) (length cs))
outer_points false cs lid = omega (arith, walls_points cs zero_v (length cs - 1))

pub holes_points : (lid : Vector) (holes : List (List Corner)) → sum_of points (join (hole_walls lid) holes) ≡ 4 * total (map length holes)
unfolding join sum_of hole_walls
holes_points lid [] = refl
holes_points lid (h ∷ holes) =
    omega (arith, sum_append points (walls h (negate (about h lid)) (length h)) (join (hole_walls lid) holes), walls_points h (negate (about h lid)) (length h), holes_points lid holes)

pub lid_points : (cs : List Corner) (lid : Vector) (ts : List Triangle) → sum_of points (lid_faces cs lid ts) ≤ 2 * length cs
unfolding lid_faces sum_of tops_of bases_of
lid_points cs lid ts =
    let floor : Face = record { points = bases_of cs; triangles = ts; out = negate lid; part = 3 } in
    let b = length-map cs (λ (c : Corner). c.base) in
    let t = length-map cs (λ (c : Corner). c.top) in
    let f = at_most_then (has_height cs) (floor ∷ []) (length cs) (unfold sum_of in omega arith) in
    omega (arith, f)

pub outline_points : (closed : Bool) (cs : List Corner) (holes : List (List Corner))
    → sum_of points (outline_faces closed cs holes) ≤ cond closed (6 * (length cs + total (map length holes))) (4 * (length cs - 1 + total (map length holes)))
unfolding outline_faces outer_walls sum_of
outline_points true cs holes =
    let lid = lid_normal cs in
    let ts = (outline_lid cs holes).triangles in
    let all = all_corners cs holes in
    let outer = outer_walls true cs lid in
    let inner = join (hole_walls lid) holes in
    omega (arith, sum_append points (outer ++ inner) (lid_faces all lid ts), sum_append points outer inner, outer_points true cs lid, holes_points lid holes, lid_points all lid ts, all_total cs holes)
outline_points false cs holes =
    let lid = lid_normal cs in
    let outer = walls cs zero_v (length cs - 1) in
    let inner = join (hole_walls lid) holes in
    omega (arith, sum_append points (outer ++ inner) [], sum_append points outer inner, walls_points cs zero_v (length cs - 1), holes_points lid holes)

-- the entries of a log: at most 609 by the limits of section 1
spread : (counts : List ℕ) → sum_of (λ n. n + 2) counts ≡ total counts + 2 * length counts
unfolding sum_of
spread [] = refl
spread (n ∷ counts) = omega (arith, spread counts)

pub outline_entries : (cs : List Corner) (holes : List (List Corner)) → length (outline_lid cs holes).log ≤ 1 + (length cs + total (map length holes) + 3 * length holes - 1)
unfolding outline_lid
outline_entries cs holes = omega (arith, log_size (flat_of cs holes) (length cs) (map length holes), spread (map length holes), length-map holes length)

marked_most : (m : ℕ) (es : List Entry) → count_of (is_mark m) es ≤ length es
unfolding count_of
marked_most m [] = omega arith
marked_most m (e ∷ es) = omega (arith, marked_most m es, either (λ (n : ℕ). n ≤ 1) (is_mark m e) {x = 1} {y = 0} (omega arith) (omega arith))

pub price_lid : (cs : List Corner) (holes : List (List Corner)) → lid_price (flat_of cs holes) (outline_lid cs holes).log ≤ 1 + length (outline_lid cs holes).log
unfolding lid_price one_more
price_lid cs holes =
    let ring = left_over (outline_lid cs holes).log in
    let test = eqb (length ring) 3 && lt zerof (turn_of (flat_of cs holes) (get_or ring 0 0) (get_or ring 1 0) (get_or ring 2 0)) in
    omega (arith, marked_most 1 (outline_lid cs holes).log, either (λ (n : ℕ). n ≤ 1) test {x = 1} {y = 0} (omega arith) (omega arith))

pub sum_lengths : (holes : List (List Corner)) → sum_of length holes ≡ total (map length holes)
unfolding sum_of
sum_lengths [] = refl
sum_lengths (h ∷ holes) = omega (arith, sum_lengths holes)

lid_price_lem : (cs : List Corner) (holes : List (List Corner)) → lid_price (flat_of cs holes) (outline_lid cs holes).log ≤ length cs + total (map length holes) + 2 * length holes - 2
unfolding outline_lid
lid_price_lem cs holes =
    let fs = flat_of cs holes in
    omega (arith, lid_triangles fs (length cs) (map length holes), lid_most fs (length cs) (map length holes), spread (map length holes), length-map holes length)

pub outline_most_lem : (closed : Bool) (cs : List Corner) (holes : List (List Corner))
    → let n = length cs + total (map length holes) in
    outline_price closed cs holes ≤ cond closed (2 * n + 2 * (n + 2 * length holes - 2)) (2 * (length cs - 1 + total (map length holes)))
unfolding outline_price
outline_most_lem false cs holes = omega (arith, sum_lengths holes)
outline_most_lem true cs holes =
    let t = lid_price (flat_of cs holes) (outline_lid cs holes).log in
    omega (arith, sum_lengths holes, lid_price_lem cs holes, either (λ (n : ℕ). n ≤ t) (has_height (all_corners cs holes)) {x = t} {y = 0} (omega arith) (omega arith))

-- ---- sweeps

-- neighbours with at most n points a pair
pairs_points : {A : Type 0} (f : A → A → List Face) (n : ℕ) → ((a b : A) → sum_of points (f a b) ≤ n) → (a : A) (rest : List A) → sum_of points (pairs f (a ∷ rest)) ≤ n * length rest
unfolding pairs sum_of
pairs_points f n h a [] = zero-le
pairs_points f n h a (b ∷ rest) = omega (arith, sum_append points (f a b) (pairs f (b ∷ rest)), h a b, pairs_points f n h b rest, mul-suc n (length rest))

four_faces : (widthless flat : Bool) (l r t f : Face) → points l ≡ 4 → points r ≡ 4 → points t ≡ 4 → points f ≡ 4
    → sum_of points (l ∷ cond widthless [] (r ∷ t ∷ cond flat [] (f ∷ []))) ≤ 16
unfolding sum_of
four_faces true flat l r t f p q u v = omega arith
four_faces false true l r t f p q u v = omega arith
four_faces false false l r t f p q u v = omega arith

pair_points : (a b : Section) → sum_of points (pair_faces a b) ≤ 16
unfolding pair_faces quad
pair_points a b = four_faces (is_widthless_section a && is_widthless_section b) (is_flat_section a && is_flat_section b) _ _ _ _ refl refl refl refl

pub sweep_points : (ss : List Section) → sum_of points (sweep_faces ss) ≤ 16 * length ss - 8
unfolding sweep_faces sweep_caps cap quad sum_of pairs
sweep_points [] = omega arith
sweep_points (s ∷ rest) = omega (arith, sum_append points (pairs pair_faces (s ∷ rest)) (sweep_caps (s ∷ rest)), pairs_points pair_faces 16 pair_points s rest)

pair_most : (a b : Section) → pair_price a b ≤ 8
unfolding pair_price
pair_most a b =
    either (λ (n : ℕ). n ≤ 8) (is_widthless_section a && is_widthless_section b) {x = 2} (omega arith) (either (λ (n : ℕ). n ≤ 8) (is_flat_section a && is_flat_section b) {x = 6} {y = 8} (omega arith) (omega arith))

pairs_most : (a : Section) (rest : List Section) → pairs_price (a ∷ rest) ≤ 8 * length rest
unfolding pairs_price
pairs_most a [] = omega arith
pairs_most a (b ∷ rest) = omega (arith, pair_most a b, pairs_most b rest)

pub sweep_most_lem : (ss : List Section) → pairs_price ss + caps_price 4 ss ≤ 8 * length ss - 4
unfolding pairs_price caps_price
sweep_most_lem [] = omega arith
sweep_most_lem (s ∷ rest) = omega (arith, pairs_most s rest)

tube_points : (a b : Ellipse) → sum_of points (tube_faces a b) ≤ 64
unfolding tube_faces tube_side quad
tube_points a b = omega (arith, sum_list points 4 (tube_side a b) side 16 0)
  where
    side : (k : ℕ) → points (tube_side a b k) ≡ 4
    side k = refl

tube_caps_points : (es : List Ellipse) → Each Sixteen es → sum_of points (tube_caps es) ≤ 32
unfolding tube_caps end_face sum_of
tube_caps_points [] q = omega arith
tube_caps_points (e ∷ rest) q = omega (arith, q.0, each_at Sixteen (e ∷ rest) (length rest) ellipse0 (omega arith) q)

tubes_points : (es : List Ellipse) → Each Sixteen es → sum_of points (pairs tube_faces es ++ tube_caps es) ≤ 64 * length es - 32
unfolding pairs tube_caps sum_of
tubes_points [] q = omega arith
tubes_points (e ∷ rest) q =
    omega (arith, sum_append points (pairs tube_faces (e ∷ rest)) (tube_caps (e ∷ rest)), pairs_points tube_faces 64 tube_points e rest, tube_caps_points (e ∷ rest) q)

pub round_points : (ss : List Section) → sum_of points (round_sweep_faces ss) ≤ 64 * length ss - 32
unfolding round_sweep_faces
round_points ss =
    omega (arith, length-map ss ellipse, tubes_points (map ellipse ss) (each_map (λ (s : Section). Unit {0}) Sixteen ellipse (λ s u. ellipse_sixteen s) ss (each_any (λ (s : Section). Unit {0}) (λ s. tt) ss)))

pub round_most : (ss : List Section) → 32 * (length ss - 1) + caps_price 28 ss ≤ 32 * length ss - 4
unfolding caps_price
round_most [] = omega arith
round_most (s ∷ rest) = omega arith

-- ---- every record

-- a shape whose record has `size` bytes
pub record Sized (size : ℕ) (sh : Shape) : Type 0 where
  pub points : sum_of points (faces_of sh) ≤ 2 * size
  pub triangles : sum_of count (faces_of sh) ≤ 3 * size
  pub entries : length (log_of sh) ≤ 2 * size
  pub log : length (log_of sh) ≤ 609

few_entries : (closed : Bool) (cs : List Corner) (holes : List (List Corner)) (n : ℕ) → 1 + (length cs + total (map length holes) + 3 * length holes) ≤ n → length (log_of (outline closed cs holes)) ≤ n
unfolding log_of
few_entries true cs holes n h = omega (arith, outline_entries cs holes)
few_entries false cs holes n h = omega arith

few_points : (closed : Bool) (cs : List Corner) (holes : List (List Corner)) → sum_of points (outline_faces closed cs holes) ≤ 6 * (length cs + total (map length holes))
few_points true cs holes = outline_points true cs holes
few_points false cs holes = omega (arith, outline_points false cs holes)

few_triangles : (closed : Bool) (cs : List Corner) (holes : List (List Corner)) → outline_price closed cs holes ≤ 4 * (length cs + total (map length holes) + length holes)
few_triangles true cs holes = omega (arith, outline_most_lem true cs holes)
few_triangles false cs holes = omega (arith, outline_most_lem false cs holes)

outline_sized : (closed : Bool) (cs : List Corner) (holes : List (List Corner)) (c h : ℕ) → length cs + total (map length holes) ≡ c → length holes ≡ h → c ≤ most_corners → h ≤ most_holes
    → Sized (5 + (4 + 2 * h + 24 * c)) (outline closed cs holes)
unfolding faces_of offered
outline_sized closed cs holes c h p q l m =
    record {
      points = omega (arith, few_points closed cs holes);
      triangles = omega (arith, offered_count (outline closed cs holes), few_triangles closed cs holes);
      entries = few_entries closed cs holes _ (omega arith);
      log = few_entries closed cs holes _ (omega arith);
    }

pub body_sized : (s : List ℕ) (i : ℕ) (body : Body) → Limits s i body → Sized (5 + body_size body) (shape_of s i body)
unfolding faces_of offered log_of
body_sized s i (Solid p) l =
    let o = point_at s p.position in
    let t = orientation_of s p in
    let first = l.orientation in
    let second = l.sizes in
    record {
      points = omega (arith, solid_points o t p.extent);
      triangles = omega (arith, offered_count (solid o t p.extent), solid_most_lem p.extent);
      entries = omega arith;
      log = omega arith;
    }
body_sized s i (Outline closed outer holes corners) l =
    let counts = counts_at s holes (i + 4) in
    let at = i + 4 + 2 * holes in
    outline_sized closed (corners_at s outer at) (holes_at s counts (at + 24 * outer)) corners holes (corners_count s outer at counts (at + 24 * outer) ∙ sym l.total) (holes_length s counts (at + 24 * outer) ∙ counts_length s holes (i + 4)) l.most l.few
body_sized s i (Sweep false n) l =
    let ss = sections_at s n (i + 2) in
    let e = sections_length s n (i + 2) in
    record { points = omega (arith, sweep_points ss); triangles = omega (arith, offered_count (sweep ss), sweep_most_lem ss); entries = omega arith; log = omega arith }
body_sized s i (Sweep true n) l =
    let ss = sections_at s n (i + 2) in
    let e = sections_length s n (i + 2) in
    record { points = omega (arith, round_points ss); triangles = omega (arith, offered_count (round_sweep ss), round_most ss); entries = omega arith; log = omega arith }

-- what `draw` may rely on: all points, triangles and offered triangles can be counted
pub record CanCount (before : ℕ) (sh : Shape) : Type 0 where
  pub countable : Countable before (tally 0 0 0) (sum_of points (faces_of sh)) (sum_of count (faces_of sh))
  pub offered : offered sh < 2 ^ 32
  pub entries : length (log_of sh) ≤ 609

pub can_draw_counted : (s : List ℕ) (i : ℕ) (body : Body) (before : ℕ) → CanDraw s i body before → CanCount before (shape_of s i body)
can_draw_counted s i body before c =
    let z = body_sized s i body c.limits in
    let p = z.points in
    let t = z.triangles in
    let l = c.inside in
    let n = c.short in
    let f = c.few in
    record {
      countable = record { vertices = omega arith; kept = omega arith; thin = omega arith };
      offered = omega (arith, offered_count (shape_of s i body));
      entries = z.log;
    }
