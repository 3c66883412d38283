-- What the objects of an accepted scene come to, by the bytes of their records, at every limit: all counts fit u32. Assumes nothing.
use mathlib.Core.Path.{◌≡◌, sym, subst}
use mathlib.Core.Bool.{Bool, true, false, cond}
use mathlib.Core.List.{List, [], ◌∷◌}
use Prim.Native.Nat.{ℕ, zero, suc, ◌+◌, ◌-◌, ◌*◌, ◌≤◌, ◌<◌, zero-le}
use native.Mathlib.Nat.{sub-zero}
use native.Mathlib.Omega.{arith}
use lib.Dec.{eqb}
use lib.ListN.{length, get_or, drop, length-append, drop_of_length-le}
use lib.Ieee.{Float}
use Rattle.lists.specs.Loops.{join, sum_of}
use Rattle.object.specs.Object.{Object}
use Rattle.scene.specs.declared.headers.Body.{Body}
use Rattle.scene.specs.declared.headers.Body.TheVariants.{Solid, Outline, Sweep}
use Rattle.scene.specs.Contract.Headers.{body_at, body_size, header_at, object_of, Limits}
use Rattle.scene.specs.Scene.{accepted, scene, trailer, count_at}
use Rattle.scene.proofs.Walk.{Walking, walk_object, walk_next, walk_limits, walk_inside, accepted_scene}
use Rattle.face.proofs.Counts.{faces_account}
use Rattle.face.proofs.Draws.{vertices_most}
use Rattle.shape.specs.Shapes.{faces_of, log_of}
use Rattle.shape.proofs.Sizes.{Sized, body_sized}
use Rattle.mesh.specs.Mesh.{kept_by, piece_of, span_of, add_piece, mesh_from, logs_of}
use Rattle.mesh.specs.Contract.PerBuffer.{FitCounts}
use Rattle.mesh.specs.Operations.{output, counts_of}
use Rattle.mesh.proofs.MeshSizes.{output_counts}
use Rattle.mesh.proofs.Rooms.{numbers_fit}

-- ---- a record's bytes

body_least : (s : List ℕ) (i : ℕ) (body : Body) → Limits s i body → 2 ≤ body_size body
body_least s i (Solid p) l = omega (arith, l.orientation, l.sizes)
body_least s i (Outline closed outer holes corners) l = omega arith
body_least s i (Sweep round sections) l = omega arith

pub record_least : (s : List ℕ) (i : ℕ) → Limits s (i + 5) (header_at s i).body → 7 ≤ (header_at s i).size
unfolding header_at
record_least s i l = omega (arith, body_least s (i + 5) (body_at s (i + 5) (get_or s i 0)) l)

one_or_none : {A : Type 0} (b : Bool) (x : A) → length (cond b [] (x ∷ [])) ≤ 1
one_or_none true x = omega arith
one_or_none false x = omega arith

module _ (limit : Float) where
  span_most : (id v i : ℕ) (o : Object) → length (span_of id v i (piece_of limit v o)) ≤ 1
  unfolding span_of
  span_most id v i o = one_or_none (eqb (length (piece_of limit v o).indices) 0) _

  -- ---- objects whose records take so many bytes

  pub record Comes (os : List Object) (bytes : ℕ) : Type 0 where
    pub vertices : (v i : ℕ) → length (mesh_from limit v i os).vertices ≤ 2 * bytes
    pub spans : (v i : ℕ) → length (mesh_from limit v i os).spans ≤ length os
    pub kept : sum_of (λ (o : Object). kept_by limit o.shape) os ≤ 3 * bytes
    pub entries : length (logs_of os) ≤ 2 * bytes
    pub objects : 7 * length os ≤ bytes

  comes_none : (bytes : ℕ) → Comes [] bytes
  unfolding mesh_from sum_of logs_of join
  comes_none bytes = record { vertices = λ v i. zero-le; spans = λ v i. zero-le; kept = zero-le; entries = zero-le; objects = zero-le }

  comes_more : (o : Object) (os : List Object) (size bytes : ℕ) → 7 ≤ size → Sized size o.shape → Comes os bytes → Comes (o ∷ os) (size + bytes)
  unfolding mesh_from add_piece piece_of sum_of logs_of join kept_by
  comes_more o os size bytes h z c =
      record {
        vertices = λ v i.
            let p = piece_of limit v o in
            let m = mesh_from limit (v + length p.vertices) (i + length p.indices) os in
            omega (arith, length-append p.vertices m.vertices, vertices_most limit v (faces_of o.shape), z.points, c.vertices (v + length p.vertices) (i + length p.indices));
        spans = λ v i.
            let p = piece_of limit v o in
            let m = mesh_from limit (v + length p.vertices) (i + length p.indices) os in
            omega (arith, length-append (span_of o.id v i p) m.spans, span_most o.id v i o, c.spans (v + length p.vertices) (i + length p.indices));
        kept = omega (arith, faces_account limit (faces_of o.shape), z.triangles, c.kept);
        entries = omega (arith, length-append (log_of o.shape) (logs_of os), z.entries, c.entries);
        objects = omega (arith, c.objects);
      }

  -- the objects from number k on, whose records lie from place i to the trailer
  module _ {s : List ℕ} {e n : ℕ} {os : List Object} (all : length os ≡ n) where
    pub sized_here : {k i : ℕ} → Walking s e n os k i → k < n → Sized (header_at s i).size (object_of s i (header_at s i)).shape
    unfolding header_at
    sized_here {i = i} w l = body_sized s (i + 5) (body_at s (i + 5) (get_or s i 0)) (walk_limits w l)

    pub walk_comes : (m k i : ℕ) → n - k ≡ m → i ≤ e → Walking s e n os k i → Comes (drop k os) (e - i)
    walk_comes zero k i h j w = let past : length os ≤ k = omega arith in subst (λ (r : List Object). Comes r (e - i)) (sym (drop_of_length-le os past)) (comes_none (e - i))
    walk_comes (suc m) k i h j w =
        let l : k < n = omega arith in
        let size = (header_at s i).size in
        let inside = walk_inside w l in
        let bytes : size + (e - (i + size)) ≡ e - i = omega arith in
        let c = comes_more (object_of s i (header_at s i)) (drop (k + 1) os) size (e - (i + size)) (record_least s i (walk_limits w l)) (sized_here w l) (walk_comes m (k + 1) (i + size) (omega arith) inside (walk_next w l)) in
        rw (walk_object w l, ← bytes) c

  -- the records of an accepted scene take what the trailer, of 4 bytes for each object and 4, leaves
  module _ (s : List ℕ) (os : List Object) (h : scene s ≡ accepted os) where
    pub scene_comes : (4 * length os + 4 ≤ length s) × Comes os (length s - (4 * length os + 4))
    unfolding trailer
    scene_comes =
        let a = accepted_scene s os h in
        let n = count_at s in
        let size = a.size in
        let c = walk_comes a.size n 0 0 (sub-zero n) zero-le a.begins in
        let bytes : length s - (4 * n + 4) - 0 ≡ length s - (4 * length os + 4) = omega arith in
        (omega (arith, a.room), subst (Comes os) bytes c)

    -- document 01, section 1: all counts then fit u32
    pub accepted_fits : FitCounts (counts_of (output limit os))
    accepted_fits =
        let a = accepted_scene s os h in
        let c = scene_comes.1 in
        let size = a.size in
        let few = a.few in
        let short = a.short in
        subst FitCounts (output_counts limit os)
        (numbers_fit _ _ _ _ _ (omega (arith, c.vertices 0 0)) (omega (arith, c.kept)) (omega (arith, c.spans 0 0)) (omega arith) (omega (arith, c.entries)))
