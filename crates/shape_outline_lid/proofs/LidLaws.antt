-- A lid's triangles in a buffer, and its bounds. Assumes nothing.
use mathlib.Core.Path.{◌≡◌, refl, sym, ap, ap₂, subst, ◌∙◌}
use Prim.Native.Nat.{ℕ, suc, ◌+◌, ◌*◌, ◌/◌, ◌≤◌}
use native.Mathlib.Omega.{arith}
use mathlib.Core.List.{List, [], ◌∷◌, map}
use lib.Dec.{lit<}
use lib.ListN.{length, take}
use lib.Seq.{sets}
use lib.Ieee.{Float}
use Rattle.lists.specs.Each.{Each}
use Rattle.lists.specs.Loops.{sum_of}
use Rattle.lists.proofs.Lists.{join_size}
use Rattle.lists.proofs.Buffers.{Reads, records_back, past}
use Rattle.coords.specs.declared.Point.{Point}
use Rattle.coords_vector.specs.declared.Vector.{Vector}
use Rattle.coords.specs.Buffers.{vertex_numbers, vertices_in}
use Rattle.coords.proofs.Buffers.{vertices_size, vertices_back}
use Rattle.object.specs.declared.Corner.{Corner}
use Rattle.scene_field.specs.Fields.{corners_at, counts_at, holes_at}
use Rattle.scene.proofs.Parts.{holes_length, counts_length, corners_count}
use Rattle.buffer.proofs.Vertices.{length_vertices}
use Rattle.face.specs.declared.Tally.{Tally}
use Rattle.face.specs.Faces.{Triangle}
use Rattle.face.specs.Contract.Faces.{TriangleLow}
use Rattle.face_triangle.specs.Contract.Triangles.{triangle_at, triangles_in}
use Rattle.face.specs.declared.Canvas.{Canvas}
use Rattle.face.specs.Contract.Drawing.{Countable, CountableOn, Draws}
use Rattle.face.proofs.Canvases.{draws_countable}
use Rattle.face.proofs.Draws.{countable_less}
use Rattle.face_draw.proofs.OneFace.{length_triangles}
use Rattle.lid.specs.Lid.{lid_price}
use Rattle.lid.specs.Contract.Written.{triangle_record, triangle_numbers}
use Rattle.lid.proofs.Facts.{lid_triangles, lid_corners}
use Rattle.shape.specs.Shapes.{flat_of, outline_lid}
use Rattle.shape_outline_corners.specs.declared.OutlineAt.{OutlineAt}
use Rattle.shape_outline_corners.specs.Contract.Outlines.{face_at, points_at, corners_place, lid_at, Placed, OutlineHolds}
use Rattle.shape_outline_corners.proofs.CornerLaws.{points_length}
use Rattle.shape_outline_lid.proofs.FillLaws.{fill_front}
use Rattle.shape.proofs.Sizes.{outline_entries, price_lid}

-- ---- its triangles in a buffer

triangle_reads : Reads triangle_record triangle_at
triangle_reads = record {
  first = λ t rest. refl;
  later = λ t rest k. λ i. record {
    a = past (triangle_record t) rest (3 * suc k) (3 * k) 0 (omega arith) i;
    b = past (triangle_record t) rest (3 * suc k + 1) (3 * k + 1) 0 (omega arith) i;
    c = past (triangle_record t) rest (3 * suc k + 2) (3 * k + 2) 0 (omega arith) i;
  };
}

triangles_size : (ts : List Triangle) → length (triangle_numbers ts) ≡ 3 * length ts
unfolding triangle_numbers
triangles_size ts = join_size triangle_record 3 (λ t. refl) ts

triangles_front : (buffer : List ℕ) (ts : List Triangle) → 3 * length ts ≤ length buffer → triangles_in (take (3 * length ts) (sets buffer 0 (triangle_numbers ts))) ≡ ts
unfolding triangles_in triangle_numbers
triangles_front buffer ts h =
    let e = triangles_size ts in
    ap (λ (m : ℕ). triangles_in (take m (sets buffer 0 (triangle_numbers ts)))) (sym e)
    ∙ ap triangles_in (fill_front buffer (triangle_numbers ts) (omega (arith, e, h)))
    ∙ records_back triangle_record triangle_at 3 (lit< tt) (λ t. refl) triangle_reads ts

pub triangles_drawn : (buffer buffer' : List ℕ) (ts : List Triangle) (t : ℕ) → t ≡ length ts → buffer' ≡ sets buffer 0 (triangle_numbers ts) → 3 * length ts ≤ length buffer → triangles_in (take (3 * t) buffer') ≡ ts
triangles_drawn buffer buffer' ts t e w h = ap₂ (λ (m : ℕ) (l : List ℕ). triangles_in (take (3 * m) l)) e w ∙ triangles_front buffer ts h

pub points_front : (buffer : List Float) (ps : List Point) (n : ℕ) → length ps ≡ n → 3 * n ≤ length buffer → vertices_in (take (3 * n) (sets buffer 0 (vertex_numbers ps))) ≡ ps
points_front buffer ps n l h =
    let e = vertices_size ps in
    let w : 3 * n ≡ length (vertex_numbers ps) = omega (arith, e, l) in
    ap (λ (m : ℕ). vertices_in (take m (sets buffer 0 (vertex_numbers ps)))) w
    ∙ ap vertices_in (fill_front buffer (vertex_numbers ps) (omega (arith, e, l, h)))
    ∙ vertices_back ps

-- n points in a buffer, and what `face` asks of them
pub points_drawn : (s : List ℕ) (n at : ℕ) (buffer buffer' : List Float) → buffer' ≡ sets buffer 0 (vertex_numbers (points_at s n at)) → 3 * n ≤ length buffer
    → vertices_in (take (3 * n) buffer') ≡ points_at s n at
points_drawn s n at buffer buffer' e h = ap (λ (l : List Float). vertices_in (take (3 * n) l)) e ∙ points_front buffer (points_at s n at) n (points_length s n at) h

pub face_asks : {before n k : ℕ} {t : Tally} (ts : List Triangle) (numbers : List Float) (ps : List Point) → vertices_in numbers ≡ ps → length ps ≡ n → Countable before t n k → Each (TriangleLow n) ts
    → Countable before t (length numbers / 3) k × Each (TriangleLow (length (vertices_in numbers))) ts
face_asks {before} {n} {k} {t} ts numbers ps e h countable low =
    let size : length (vertices_in numbers) ≡ n = ap length e ∙ h in
    (subst (λ (m : ℕ). Countable before t m k) (sym size ∙ length_vertices numbers) countable, subst (λ (m : ℕ). Each (TriangleLow m) ts) (sym size) low)

-- ---- what can be counted behind it

-- one face drawn of two with n points and k triangles each
pub face_countable : {c d : Canvas} {part : ℕ} {ps : List Point} {ts : List Triangle} {out : Vector} (n k : ℕ)
    → CountableOn c (2 * n) (2 * k) → Draws (face_at part ps ts out ∷ []) c d → length ps ≡ n → length ts ≡ k → CountableOn d n k
unfolding sum_of
face_countable n k countable p h g = draws_countable countable p (omega (arith, h)) (omega (arith, g))

-- ---- its bounds

module _ (s : List ℕ) (i outer holes n : ℕ) (p : Placed s i outer holes n) where
  abbrev cs : List Corner
  cs = corners_at s outer (corners_place i holes)

  abbrev hs : List (List Corner)
  hs = holes_at s (counts_at s holes (i + 4)) (corners_place i holes + 24 * outer)

  -- at most one for each entry of the log, and one more
  pub most_triangles : length (lid_at s i outer holes).triangles ≤ n + 3 * holes + 2
  most_triangles =
      let a : length (outline_lid cs hs).triangles ≡ lid_price (flat_of cs hs) (outline_lid cs hs).log = unfold outline_lid in lid_triangles (flat_of cs hs) (length cs) (map length hs) in
      let e = price_lid cs hs in
      let b = outline_entries cs hs in
      let h = holes_length s (counts_at s holes (i + 4)) (corners_place i holes + 24 * outer) ∙ counts_length s holes (i + 4) in
      let c = corners_count s outer (corners_place i holes) (counts_at s holes (i + 4)) (corners_place i holes + 24 * outer) in
      omega (arith, a, e, b, h, c, p.counted.total)

  pub few_triangles : length (lid_at s i outer holes).triangles ≤ 612
  few_triangles = omega (arith, most_triangles, p.counted.few, p.counted.most)

  pub low_triangles : Each (TriangleLow n) (lid_at s i outer holes).triangles
  low_triangles =
      subst (λ (n : ℕ). Each (TriangleLow n) (lid_at s i outer holes).triangles)
      (corners_count s outer (corners_place i holes) (counts_at s holes (i + 4)) (corners_place i holes + 24 * outer) ∙ sym p.counted.total)
      (unfold outline_lid in lid_corners (flat_of cs hs) (length cs) (map length hs))

-- what `lid_faces` asks of the lid's triangles, where they are written at the start of a buffer with room for them
pub lid_asks : {s : List ℕ} {o : OutlineAt} {before count : ℕ} {t : Tally} (buffer buffer' : List ℕ) → OutlineHolds s o → Countable before t 1024 1224
    → count ≡ length (lid_at s o.i o.outer o.holes).triangles → buffer' ≡ sets buffer 0 (triangle_numbers (lid_at s o.i o.outer o.holes).triangles)
    → 3 * length (lid_at s o.i o.outer o.holes).triangles ≤ length buffer
    → Countable before t (2 * o.n) (2 * (length (take (3 * count) buffer') / 3)) × Each (TriangleLow o.n) (triangles_in (take (3 * count) buffer'))
lid_asks {s} {o} {before} {count} {t} buffer buffer' m countable e w fits =
    let p = m.placed in
    let ts = (lid_at s o.i o.outer o.holes).triangles in
    let drawn = triangles_drawn buffer buffer' ts count e w fits in
    let size = sym (length_triangles (take (3 * count) buffer')) ∙ ap length drawn in
    let low = low_triangles s o.i o.outer o.holes o.n p in
    (countable_less countable (omega (arith, p.counted.most)) (omega (arith, size, few_triangles s o.i o.outer o.holes o.n p)), subst (Each (TriangleLow o.n)) (sym drawn) low)
